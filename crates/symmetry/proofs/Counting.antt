-- Answers of `all` and `any` over the numbers below n.
use Rattle.std.proofs.Common.{◌≡◌, ℕ, ◌<◌, Bool, true, false, length, get_or, sym, refl, subst, arith}
use mathlib.Core.Bool.{false≢true}
use Rattle.std.specs.Bool.{Decides, MatchBool}
use Rattle.std.specs.List.{range_with_len, AllWithin, HoldsAt}
use Rattle.std.proofs.lemmas.List.FromFn.{length-range_with_len, get_or-range_with_len}

module _ (P : ℕ → Type 0) (n : ℕ) where
  at : (j : ℕ) → j < n → get_or (range_with_len 0 n) j 0 ≡ j
  at j h = omega (arith, get_or-range_with_len 0 n j 0 h)

  pub all_below : (r : Bool) → MatchBool r (AllWithin P (range_with_len 0 n) 0 (length (range_with_len 0 n))) ((k : ℕ) × (k < length (range_with_len 0 n)) × HoldsAt (λ j. P j → ⊥) (range_with_len 0 n) k)
      → Decides r ((j : ℕ) → j < n → P j)
  all_below true h = (λ t j lt. subst P (at j lt) (h j 0 (omega arith) (omega (arith, length-range_with_len 0 n))), λ a. refl)
  all_below false (k, lt, fails) =
      let h : k < n = omega (arith, length-range_with_len 0 n) in
      (λ e. absurd (false≢true e), λ a. absurd (fails 0 (subst P (sym (at k h)) (a k h))))

  pub some_below : (r : Bool) → MatchBool r ((k : ℕ) × (k < length (range_with_len 0 n)) × HoldsAt P (range_with_len 0 n) k) (AllWithin (λ j. P j → ⊥) (range_with_len 0 n) 0 (length (range_with_len 0 n)))
      → Decides r ((j : ℕ) × (j < n) × P j)
  some_below true (k, lt, so) = let h : k < n = omega (arith, length-range_with_len 0 n) in (λ t. (k, h, subst P (at k h) (so 0)), λ a. refl)
  some_below false none =
      (λ e. absurd (false≢true e), λ (j, h, so). absurd (none j 0 (omega arith) (omega (arith, length-range_with_len 0 n)) (subst P (sym (at j h)) so)))
