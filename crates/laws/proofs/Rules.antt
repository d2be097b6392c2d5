-- The clauses that the rules compute are those of the relations, and there is one of each.
use Rattle.std.proofs.Common.{◌≡◌, ℕ, ◌+◌, ◌*◌, ◌/◌, ◌⊎◌, ◌↔◌, List, ◌++◌, map, inl, inr, ⊎_elim, arith}
use Rattle.calculus.specs.Sets.{◌∈◌, Same}
use Rattle.calculus.specs.Literals.{var}
use Rattle.calculus.specs.Meaning.{Meaning, clause_of}
use Rattle.laws.specs.Clauses.{Ascending, Resolvent, Reduced}
use Rattle.laws.specs.Cards.{act}
use Rattle.laws.specs.Lines.{Line, axiom_line, resolution, reduction, symmetry}
use Rattle.laws.specs.Derivations.{line_of, Gives}
use Rattle.laws.specs.Claims.{sorted, without, resolvent, reduced, given}
use Rattle.laws.proofs.Sets.{in_left, in_right, in_append, in_sorted, from_sorted, in_without, from_without}
use Rattle.laws.proofs.Ascending.{asc_sorted, asc_same}

pub sorted_same : (C : List ℕ) → Same (sorted C) C
sorted_same C l = (from_sorted l C, in_sorted l C)

pub resolvent_is : (P Q : List ℕ) (v : ℕ) → Resolvent P Q v (resolvent P Q v)
resolvent_is P Q v l = (to, fro)
  where
    both : List ℕ
    both = without (2 * v) P ++ without (2 * v + 1) Q

    to : l ∈ resolvent P Q v → ((l ∈ P) × (l ≡ 2 * v → ⊥)) ⊎ ((l ∈ Q) × (l ≡ 2 * v + 1 → ⊥))
    to h = ⊎_elim (λ k. inl (from_without (2 * v) l P k)) (λ k. inr (from_without (2 * v + 1) l Q k)) (in_append l (without (2 * v) P) (without (2 * v + 1) Q) (from_sorted l both h))

    fro : ((l ∈ P) × (l ≡ 2 * v → ⊥)) ⊎ ((l ∈ Q) × (l ≡ 2 * v + 1 → ⊥)) → l ∈ resolvent P Q v
    fro (inl h) = in_sorted l both (in_left l (without (2 * v) P) (without (2 * v + 1) Q) (in_without (2 * v) l P h.0 h.1))
    fro (inr h) = in_sorted l both (in_right l (without (2 * v) P) (without (2 * v + 1) Q) (in_without (2 * v + 1) l Q h.0 h.1))

pub reduced_is : (P : List ℕ) (v : ℕ) → Reduced P v (reduced P v)
reduced_is P v l = (to, fro)
  where
    rest : List ℕ
    rest = without (2 * v) (without (2 * v + 1) P)

    to : l ∈ reduced P v → (l ∈ P) × (var l ≡ v → ⊥)
    to h =
        let a : (l ∈ without (2 * v + 1) P) × (l ≡ 2 * v → ⊥) = from_without (2 * v) l (without (2 * v + 1) P) (from_sorted l rest h) in
        let b : (l ∈ P) × (l ≡ 2 * v + 1 → ⊥) = from_without (2 * v + 1) l P a.0 in
        let n : l ≡ 2 * v → ⊥ = a.1 in
        let k : l ≡ 2 * v + 1 → ⊥ = b.1 in
        (b.0, λ e. omega arith)

    fro : (l ∈ P) × (var l ≡ v → ⊥) → l ∈ reduced P v
    fro h =
        let n : l / 2 ≡ v → ⊥ = h.1 in
        in_sorted l rest (in_without (2 * v) l (without (2 * v + 1) P) (in_without (2 * v + 1) l P h.0 (λ e. n (omega arith))) (λ e. n (omega arith)))

module _ (m : Meaning) (kept : List (List ℕ)) where
  pub gives_given : (line : Line) → Gives m kept line (given m kept line)
  gives_given (axiom_line j) = (asc_sorted (clause_of m j), sorted_same (clause_of m j))
  gives_given (resolution p q v) =
      (asc_sorted (without (2 * v) (line_of kept p) ++ without (2 * v + 1) (line_of kept q)), resolvent_is (line_of kept p) (line_of kept q) v)
  gives_given (reduction p v) = (asc_sorted (without (2 * v) (without (2 * v + 1) (line_of kept p))), reduced_is (line_of kept p) v)
  gives_given (symmetry p card) = (asc_sorted (map (act card) (line_of kept p)), sorted_same (map (act card) (line_of kept p)))

  -- ascending lists of the same literals
  alike : (P : ℕ → Type 0) (C D : List ℕ) → Ascending C → Ascending D → ((l : ℕ) → (l ∈ C) ↔ P l) → ((l : ℕ) → (l ∈ D) ↔ P l) → C ≡ D
  alike P C D a b c d = asc_same C D a b (λ l. (λ i. (d l).1 ((c l).0 i), λ i. (c l).1 ((d l).0 i)))

  pub gives_one : (line : Line) (C : List ℕ) → Gives m kept line C → C ≡ given m kept line
  gives_one (axiom_line j) C g =
      let h : _ × _ = gives_given (axiom_line j) in alike (λ l. l ∈ clause_of m j) C (given m kept (axiom_line j)) g.0 h.0 g.1 h.1
  gives_one (resolution p q v) C g =
      let h : _ × _ = gives_given (resolution p q v) in
      alike (λ l. ((l ∈ line_of kept p) × (l ≡ 2 * v → ⊥)) ⊎ ((l ∈ line_of kept q) × (l ≡ 2 * v + 1 → ⊥))) C (given m kept (resolution p q v)) g.0 h.0 g.1 h.1
  gives_one (reduction p v) C g =
      let h : _ × _ = gives_given (reduction p v) in
      alike (λ l. (l ∈ line_of kept p) × (var l ≡ v → ⊥)) C (given m kept (reduction p v)) g.0 h.0 g.1 h.1
  gives_one (symmetry p card) C g =
      let h : _ × _ = gives_given (symmetry p card) in
      alike (λ l. l ∈ map (act card) (line_of kept p)) C (given m kept (symmetry p card)) g.0 h.0 g.1 h.1
