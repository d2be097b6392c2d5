-- Literals by variable and sign.
use Rattle.std.specs.Prelude.{ℕ, ◌+◌, ◌*◌, Bool, true, false}
use Rattle.rules.specs.declared.literals.Literal.{Literal}

-- the code of variable v, or of its negation
abbrev pub literal : ℕ → Bool → ℕ
literal v false = 2 * v
literal v true = 2 * v + 1

-- the code of a literal
abbrev pub code_of : Literal → ℕ
code_of l = literal l.variable l.negated
