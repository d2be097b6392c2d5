-- Literals and clauses. The literal of variable v has the code 2v, its negation the code 2v + 1.
use Rattle.std.specs.Prelude.{ℕ, ◌+◌, ◌*◌, ◌/◌, ◌%◌, cond, List, ◌==◌}
use Rattle.calculus.specs.Sets.{◌∈◌}

-- the variable of a literal
abbrev pub var : ℕ → ℕ
var l = l / 2

-- the negation of a literal
abbrev pub neg : ℕ → ℕ
neg l = cond (l % 2 == 0) (2 * (l / 2) + 1) (2 * (l / 2))

-- a clause, read as a set, holds some variable with both signs
abbrev pub Tautological : List ℕ → Type 0
Tautological C = (l : ℕ) × (l ∈ C) × (neg l ∈ C)
