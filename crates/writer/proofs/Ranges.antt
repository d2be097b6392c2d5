-- What the questions about the variables come to: the greatest level, and the first variable of a level.
use Rattle.std.proofs.Common.{◌≡◌, ℕ, zero, suc, ◌+◌, ◌-◌, ◌<◌, ◌≤◌, Bool, true, List, [], ◌∷◌, length, get_or, filter, Some, None, Option, MatchOption, unwrap_or, slice_get, refl, ap, ⊎_elim, arith}
use Rattle.std.specs.List.{range_with_len}
use Rattle.std.proofs.lemmas.Bool.{cond_both, cases_eq}
use Rattle.writer.specs.Written.{greatest}

-- the greatest is the least number that no element is above
pub greatest_below : (xs : List ℕ) (b : ℕ) → ((i : ℕ) → i < length xs → get_or xs i 0 ≤ b) → greatest xs ≤ b
greatest_below [] b h = omega arith
greatest_below (x ∷ xs) b h = omega (arith, h 0 (omega arith), greatest_below xs b (λ i l. h (suc i) (omega arith)))

-- none of these numbers passes, or the first that does is v
abbrev pub FirstOf : (ℕ → Bool) → ℕ → ℕ → Option ℕ → Type 0
FirstOf p a n r =
    MatchOption r ((v : ℕ) → a ≤ v → v < a + n → p v ≡ true → ⊥)
    (λ v. (a ≤ v) × (v < a + n) × (p v ≡ true) × ((w : ℕ) → a ≤ w → w < v → p w ≡ true → ⊥))

pub first_kept : (p : ℕ → Bool) (a n : ℕ) (r : Option ℕ) → FirstOf p a n r → r ≡ slice_get (filter p (range_with_len a n)) 0
first_kept p a zero None h = refl
first_kept p a zero (Some v) h = absurd (omega arith)
first_kept p a (suc n) None h =
    cond_both (p a) _ _ (λ vs. None ≡ slice_get vs 0) (λ t. absurd (h a (omega arith) (omega arith) t))
    (λ _. first_kept p (a + 1) n None (λ v l b. h v (omega arith) (omega arith)))
first_kept p a (suc n) (Some v) (above, below, passes, first) =
    cond_both (p a) _ _ (λ vs. Some v ≡ slice_get vs 0)
    (λ t. ⊎_elim (λ e. ap Some e) (λ ne. absurd (first a (omega arith) (omega arith) t)) (cases_eq v a))
    (λ f. first_kept p (a + 1) n (Some v) (⊎_elim (λ e. absurd (cc)) (λ ne. omega arith) (cases_eq v a), omega arith, passes, λ w l. first w (omega arith)))

-- no number before the first that passes does
none_before : (p : ℕ → Bool) (a n v : ℕ) → Some v ≡ slice_get (filter p (range_with_len a n)) 0 →
    (a ≤ v) × (v < a + n) × (filter p (range_with_len a (v - a)) ≡ [])
none_before p a zero v e = absurd (let z : ◌≡◌ {A = ℕ} 0 1 = cc in omega arith)
none_before p a (suc n) v e =
    cond_both (p a) _ _ (λ vs. Some v ≡ slice_get vs 0 → (a ≤ v) × (v < a + suc n) × (filter p (range_with_len a (v - a)) ≡ []))
    (λ t e. let same : v ≡ a = cc in let none : v - a ≡ 0 = omega arith in (omega arith, omega arith, rw none refl))
    (λ f e.
    let rest = none_before p (a + 1) n v e in
    let one : v - a ≡ suc (v - (a + 1)) = omega arith in
    (omega arith, omega arith, rw (one, f) rest.2)) e

-- the first of the numbers 1 to n that passes, or else 1, is a place from which on all stand that pass
pub begins : (p : ℕ → Bool) (n : ℕ) (r : Option ℕ) → r ≡ slice_get (filter p (range_with_len 1 n)) 0 →
    (1 ≤ unwrap_or r 1) × (unwrap_or r 1 ≤ n + 1) × (filter p (range_with_len 1 (unwrap_or r 1 - 1)) ≡ [])
begins p n None e = (omega arith, omega arith, refl)
begins p n (Some v) e = let b = none_before p 1 n v e in (b.0, omega arith, b.2)
