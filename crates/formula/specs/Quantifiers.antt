use Rattle.std.specs.Prelude.{ℕ, Option, None, Some}
use Rattle.formula.specs.declared.quantifier.Quantifier.{Quantifier}
use Rattle.formula.specs.declared.quantifier.Quantifier.TheVariants.{Exists, Forall}

-- the number of a quantifier: 1 existential, 2 universal; 0 of what has none
abbrev pub quantifier_number : Option Quantifier → ℕ
quantifier_number None = 0
quantifier_number (Some Exists) = 1
quantifier_number (Some Forall) = 2
