-- The test that every existential literal of a clause lies outside a level decides that it does.
use Rattle.std.proofs.Common.{◌≡◌, ℕ, ◌<◌, Bool, true, not, eqb, ltb, ◌↔◌, List, [], ◌∷◌, sym, refl, ◌∙◌, inl, inr, ⊎_elim}
use Rattle.std.proofs.lemmas.Bool.{cases_eq, and_from, or_cases, or_left, or_right, both_ways, eq-eqb, ne_eqb, ltb-true, lt-ltb, not-true, not_from_false}
use Rattle.calculus.specs.Sets.{◌∈◌}
use Rattle.calculus.specs.Literals.{var}
use Rattle.calculus.specs.Meaning.{Meaning, level_of, quantifier_of}
use Rattle.laws.specs.Claims.{every, innermost}
use Rattle.laws.specs.Clauses.{Innermost}
use Rattle.laws.proofs.Deciding.{every_true}
use Rattle.rules.specs.Depth.{outside}

every_from : (f : ℕ → Bool) (xs : List ℕ) → ((x : ℕ) → x ∈ xs → f x ≡ true) → every f xs ≡ true
every_from f [] h = refl
every_from f (y ∷ xs) h = and_from (f y) (every f xs) (h y (inl refl)) (every_from f xs (λ x m. h x (inr m)))

outside_is : (m : Meaning) (level l : ℕ) → (outside m level l ≡ true) ↔ (quantifier_of m (var l) ≡ 1 → level_of m (var l) < level)
outside_is m level l = (
  λ h e. ⊎_elim (λ k. absurd (both_ways (eqb (quantifier_of m (var l)) 1) (not-true (eqb (quantifier_of m (var l)) 1) k) (eq-eqb (quantifier_of m (var l)) 1 e)))
      (λ k. ltb-true (level_of m (var l)) level k) (or_cases (not (eqb (quantifier_of m (var l)) 1)) (ltb (level_of m (var l)) level) h),
  λ h. ⊎_elim (λ e. or_right (not (eqb (quantifier_of m (var l)) 1)) (ltb (level_of m (var l)) level) (lt-ltb (level_of m (var l)) level (h e)))
      (λ n. or_left (not (eqb (quantifier_of m (var l)) 1)) (ltb (level_of m (var l)) level) (not_from_false (eqb (quantifier_of m (var l)) 1) (ne_eqb (quantifier_of m (var l)) 1 n)))
      (cases_eq (quantifier_of m (var l)) 1),
)

pub innermost_is : (m : Meaning) (P : List ℕ) (v : ℕ) (r : Bool) → r ≡ innermost m P v → (r ≡ true) ↔ Innermost m P v
innermost_is m P v r e = (
  λ h l i. (outside_is m (level_of m v) l).0 (every_true (outside m (level_of m v)) P l (sym e ∙ h) i),
  λ h. e ∙ every_from (outside m (level_of m v)) P (λ l i. (outside_is m (level_of m v) l).1 (h l i)),
)
