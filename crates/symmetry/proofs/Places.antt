-- What holds of the clauses of a formula holds of them by their places.
use Rattle.std.proofs.Common.{◌≡◌, ℕ, ◌<◌, List, [], length, subst}
use Rattle.calculus.specs.Sets.{◌∈◌}
use Rattle.calculus.specs.Meaning.{Meaning, clause_of}
use Rattle.laws.proofs.Sets.{get_or_in, place_of}

module _ (P : List ℕ → Type 0) (m : Meaning) where
  pub each_clause : ((j : ℕ) → j < length m.clauses → P (clause_of m j)) → (C : List ℕ) → C ∈ m.clauses → P C
  each_clause h C i = let p : (j : ℕ) × (j < length m.clauses) × (clause_of m j ≡ C) = place_of C m.clauses [] i in subst P p.2 (h p.0 p.1)

  pub each_place : ((C : List ℕ) → C ∈ m.clauses → P C) → (j : ℕ) → j < length m.clauses → P (clause_of m j)
  each_place h j lt = h (clause_of m j) (get_or_in m.clauses j [] lt)
