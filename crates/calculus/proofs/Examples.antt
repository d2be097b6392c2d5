-- The two small formulas are well formed.
use Rattle.std.proofs.Common.{◌≡◌, ℕ, ◌+◌, ◌≤◌, ◌⊎◌, List, [], ◌∷◌, get_or, sym, refl, subst, inl, inr, ⊎_elim, arith, lit<, lit≤}
use Rattle.std.proofs.lemmas.Bool.{cases_eq}
use Rattle.calculus.specs.Meaning.{Variable, Prefix, Formed}
use Rattle.calculus.specs.Examples.{pair, turned_pair}

either : (v : ℕ) → Variable 2 v → (v ≡ 1) ⊎ (v ≡ 2)
either v h = ⊎_elim (λ e. inl e) (λ n. inr (omega (arith, h.0, h.1))) (cases_eq v 1)

-- what holds of 1 and of 2 holds of every variable
both : (P : ℕ → Type 0) → P 1 → P 2 → (v : ℕ) → Variable 2 v → P v
both P p q v h = ⊎_elim (λ e. subst P (sym e) p) (λ e. subst P (sym e) q) (either v h)

-- two levels of one variable each, with the quantifiers a and b
module _ (a b : ℕ) (low : 1 ≤ a) (high : a ≤ 2) (low' : 1 ≤ b) (high' : b ≤ 2) (apart : a ≡ b → ⊥) where
  abbrev levels : List ℕ
  levels = 0 ∷ 1 ∷ 2 ∷ []

  abbrev quantifiers : List ℕ
  quantifiers = 0 ∷ a ∷ b ∷ []

  pub two_levels : Prefix 2 levels quantifiers
  two_levels = record {
    some = lit≤ tt;
    few = lit≤ tt;
    levels_long = refl;
    levels_none = refl;
    quantifiers_long = refl;
    quantifiers_none = refl;
    from_one = both (λ v. 1 ≤ get_or levels v 0) (lit≤ tt) (lit≤ tt);
    none_empty = λ v k h low high. ∣ (k, (low, omega (arith, at_most v h, high)), level_is k (low, omega (arith, at_most v h, high))) ∣₁;
    kinds = both (λ v. (1 ≤ get_or quantifiers v 0) × (get_or quantifiers v 0 ≤ 2)) (low, high) (low', high');
    shared = λ v w h k e. subst (λ x. get_or quantifiers v 0 ≡ get_or quantifiers x 0) (same v w h k e) refl;
    differ = λ v w h k e q. next_differs v w h k e q;
  }
    where
      level_is : (v : ℕ) → Variable 2 v → get_or levels v 0 ≡ v
      level_is = both (λ v. get_or levels v 0 ≡ v) refl refl

      at_most : (v : ℕ) → Variable 2 v → get_or levels v 0 ≤ 2
      at_most = both (λ v. get_or levels v 0 ≤ 2) (lit≤ tt) (lit≤ tt)

      same : (v w : ℕ) → Variable 2 v → Variable 2 w → get_or levels v 0 ≡ get_or levels w 0 → v ≡ w
      same v w h k e = omega (arith, e, level_is v h, level_is w k)

      next_differs : (v w : ℕ) → Variable 2 v → Variable 2 w → get_or levels w 0 ≡ get_or levels v 0 + 1 → get_or quantifiers v 0 ≡ get_or quantifiers w 0 → ⊥
      next_differs v w h k e q =
          let one : v ≡ 1 = omega (arith, e, level_is v h, level_is w k, k.1, h.0) in
          let two : w ≡ 2 = omega (arith, e, level_is v h, level_is w k, k.1, h.0) in
          apart (subst (λ x. get_or quantifiers x 0 ≡ b) one (subst (λ x. get_or quantifiers v 0 ≡ get_or quantifiers x 0) two q))

pub pair_formed : Formed pair
pair_formed = record {
  prefix = two_levels 1 2 (lit≤ tt) (lit≤ tt) (lit≤ tt) (lit≤ tt) (λ e. omega arith);
  few_clauses = lit≤ tt;
  clauses = ((lit≤ tt, ((lit≤ tt, lit< tt), ((lit≤ tt, lit< tt), tt))), ((lit≤ tt, ((lit≤ tt, lit< tt), ((lit≤ tt, lit< tt), tt))), tt));
}

pub turned_formed : Formed turned_pair
turned_formed = record {
  prefix = two_levels 2 1 (lit≤ tt) (lit≤ tt) (lit≤ tt) (lit≤ tt) (λ e. omega arith);
  few_clauses = lit≤ tt;
  clauses = pair_formed.clauses;
}
