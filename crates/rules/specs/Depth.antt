-- Which literals lie outside a level.
use Rattle.std.specs.Prelude.{ℕ, Bool, not, ◌||◌, ◌==◌, nat_lt}
use Rattle.calculus.specs.Literals.{var}
use Rattle.calculus.specs.Meaning.{Meaning, level_of, quantifier_of}

-- if the literal l is existential, it has a smaller level than the one given
abbrev pub outside : Meaning → ℕ → ℕ → Bool
outside m level l = not (quantifier_of m (var l) == 1) || nat_lt (level_of m (var l)) level
