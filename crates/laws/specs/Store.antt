-- The store of the clauses kept: how much they weigh, and when there is room for one more.
use Rattle.std.specs.Prelude.{ℕ, ◌+◌, ◌*◌, ◌<◌, ◌≤◌, List, [], ◌∷◌, length}
use Rattle.calculus.specs.Sets.{◌∈◌}

-- what it can bear, what each clause weighs, and what each of its literals adds
pub record Store : Type 0 where
  pub capacity : ℕ
  pub base : ℕ
  pub rate : ℕ

-- what a clause weighs
abbrev pub weight : Store → List ℕ → ℕ
weight S C = S.base + S.rate * length C

-- what the clauses kept weigh
abbrev pub weights : Store → List (List ℕ) → ℕ
weights S [] = 0
weights S (C ∷ Cs) = weight S C + weights S Cs

-- fewer than 8,192 clauses are kept, and the store can bear C too
abbrev pub Room : Store → List (List ℕ) → List ℕ → Type 0
Room S kept C = (length kept < 8192) × (weights S kept + weight S C ≤ S.capacity)

-- there is space for k clauses of l literals
abbrev pub Space : Store → ℕ → ℕ → Type 0
Space S k l = (k ≤ 8192) × (k * (S.base + S.rate * l) ≤ S.capacity)

-- the empty clause has been kept
abbrev pub Closed : List (List ℕ) → Type 0
Closed kept = [] ∈ kept
