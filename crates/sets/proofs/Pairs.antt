-- The variables that a word holds with both signs.
use Rattle.std.proofs.Common.{◌≡◌, ℕ, zero, suc, ◌+◌, ◌-◌, ◌*◌, ◌/◌, ◌%◌, ◌^◌, ◌<◌, ◌≤◌, Bool, true, not, ◌||◌, eqb, ◌↔◌, List, [], ◌∷◌, length, get_or, sym, refl, ap, ◌∙◌, subst, ap₂, ⊎_elim, mod-eq_of_lt, arith}
use lib.Bits.{bit_and, and_le_l}
use mathlib.Core.Bool.{false≢true}
use Rattle.std.specs.List.{range_with_len, list_any}
use Rattle.std.proofs.lemmas.List.Folds.{list_any_at}
use Rattle.std.proofs.lemmas.Nat.{shr-shr}
use Rattle.std.proofs.lemmas.Bool.{cases_eq, cases_Bool, eq-eqb, ne_eqb, eqb-true, eqb-false, not-true}
use Rattle.calculus.specs.Sets.{◌∈◌}
use Rattle.calculus.specs.Literals.{neg, Tautological}
use Rattle.laws.proofs.Sets.{neg_is}
use Rattle.laws.proofs.Deciding.{every_true}
use Rattle.laws.proofs.Order.{in_counting}
use Rattle.sets.specs.Members.{bit, members}
use Rattle.sets.specs.Steps.{pairs}
use Rattle.sets.proofs.Bits.{bit_below, zero_bit, and_bits, some_bit, bit_at}
use Rattle.sets.proofs.Elements.{in_members, from_members}

and_one : (x y : ℕ) → x < 2 → y < 2 → bit_and x y ≡ 1 → (x ≡ 1) × (y ≡ 1)
and_one zero y h k e = absurd (omega arith)
and_one (suc zero) zero h k e = absurd (omega arith)
and_one (suc zero) (suc zero) h k e = (refl, refl)
and_one (suc zero) (suc (suc y)) h k e = absurd (omega arith)
and_one (suc (suc x)) y h k e = absurd (omega arith)

and_below : (x y : ℕ) → x < 2 → bit_and x y < 2
and_below x y h = omega (arith, and_le_l x y)

abbrev mask : ℕ
mask = 0x5555_5555_5555_5555

mask_even : (j : ℕ) → j < 32 → bit mask (2 * j) ≡ 1
mask_even j h = eqb-true (bit mask (2 * j)) 1 (every_true (λ i. eqb (bit mask (2 * i)) 1) (range_with_len 0 32) j refl (in_counting 0 32 j (omega arith) (omega arith)))

mask_odd : (j : ℕ) → j < 32 → bit mask (2 * j + 1) ≡ 0
mask_odd j h = eqb-true (bit mask (2 * j + 1)) 0 (every_true (λ i. eqb (bit mask (2 * i + 1)) 0) (range_with_len 0 32) j refl (in_counting 0 32 j (omega arith) (omega arith)))

pairs_bits : (w i : ℕ) → bit (pairs w) i ≡ bit_and (bit_and (bit w i) (bit w (1 + i))) (bit mask i)
pairs_bits w i =
    and_bits (bit_and w (w / 2 ^ 1)) mask i
    ∙ ap (λ (x : ℕ). bit_and x (bit mask i)) (and_bits w (w / 2 ^ 1) i ∙ ap (λ (x : ℕ). bit_and (bit w i) (x % 2)) (shr-shr w 1 i))

-- some two neighbouring bits, of which the first stands at an even place, are both set
abbrev Pair : ℕ → Type 0
Pair w = (j : ℕ) × (j < 32) × (bit w (2 * j) ≡ 1) × (bit w (2 * j + 1) ≡ 1)

-- the test of a word
abbrev pub paired : ℕ → Bool
paired w = not (eqb (pairs w) 0)

any_at : (p : ℕ → Bool) (xs : List ℕ) → list_any p xs ≡ true → (i : ℕ) × (i < length xs) × (p (get_or xs i 0) ≡ true)
any_at p [] e = absurd (false≢true e)
any_at p (x ∷ xs) e =
    ⊎_elim (λ h. (0, omega arith, h))
    (λ n. let r : _ × _ × _ = any_at p xs (sym (ap (λ b. b || list_any p xs) n) ∙ e) in (suc r.0, omega (arith, r.1), r.2)) (cases_Bool (p x))

-- no such two bits are set where the test answers 0, and else some are
no_pair : (w : ℕ) → pairs w ≡ 0 → Pair w → ⊥
no_pair w z p =
    let e : bit (pairs w) (2 * p.0) ≡ 1 =
    pairs_bits w (2 * p.0)
    ∙ ap₂ bit_and (ap₂ bit_and p.2 (ap (bit w) (let s : 1 + 2 * p.0 ≡ 2 * p.0 + 1 = omega arith in s) ∙ p.3)) (mask_even p.0 p.1) in
    omega (arith, sym (ap (λ (x : ℕ). bit x (2 * p.0)) z) ∙ e, zero_bit (2 * p.0))

pair_from : (w : ℕ) → w < 2 ^ 64 → (pairs w ≡ 0 → ⊥) → Pair w
pair_from w h n =
    let small : pairs w < 2 ^ 64 = omega (arith, and_le_l (bit_and w (w / 2 ^ 1)) mask, and_le_l w (w / 2 ^ 1)) in
    let r : (i : ℕ) × (i < 64) × (bit (pairs w) i ≡ 1) = some_bit (pairs w) 64 (λ e. n (sym (mod-eq_of_lt small) ∙ e)) in
    by r.0 r.1 (sym (pairs_bits w r.0) ∙ r.2)
  where
    by : (i : ℕ) → i < 64 → bit_and (bit_and (bit w i) (bit w (1 + i))) (bit mask i) ≡ 1 → Pair w
    by i lt e =
        let a : _ × _ = and_one (bit_and (bit w i) (bit w (1 + i))) (bit mask i) (and_below (bit w i) (bit w (1 + i)) (bit_below w i)) (bit_below mask i) e in
        let b : _ × _ = and_one (bit w i) (bit w (1 + i)) (bit_below w i) (bit_below w (1 + i)) a.0 in
        let even : i ≡ 2 * (i / 2) =
        ⊎_elim (λ z. omega arith)
        (λ o. absurd (let q : i ≡ 2 * (i / 2) + 1 = omega arith in omega (arith, sym a.1 ∙ ap (bit mask) q, mask_odd (i / 2) (omega arith)))) (cases_eq (i % 2) 0) in
        (i / 2, omega arith, ap (bit w) (sym even) ∙ b.0, ap (bit w) (let q : 2 * (i / 2) + 1 ≡ 1 + i = omega arith in q) ∙ b.1)

module _ (words : List ℕ) where
  -- a variable with both signs stands in one word
  pair_tautological : (i : ℕ) → i < 16 → Pair (get_or words i 0) → Tautological (members words)
  pair_tautological i h p = (
    2 + (64 * i + 2 * p.0),
    in_members words (2 + (64 * i + 2 * p.0)) (omega arith, omega (arith, p.1)) (bit_at words i (2 * p.0) (omega (arith, p.1)) ∙ eq-eqb (bit (get_or words i 0) (2 * p.0)) 1 p.2),
    subst (λ l. l ∈ members words) (let q : 2 + (64 * i + (2 * p.0 + 1)) ≡ neg (2 + (64 * i + 2 * p.0)) = omega (arith, neg_is (2 + (64 * i + 2 * p.0))) in q)
        (in_members words (2 + (64 * i + (2 * p.0 + 1))) (omega arith, omega (arith, p.1)) (bit_at words i (2 * p.0 + 1) (omega (arith, p.1)) ∙ eq-eqb (bit (get_or words i 0) (2 * p.0 + 1)) 1 p.3)),
  )

  both_in : (l : ℕ) → l % 2 ≡ 0 → l ∈ members words → l + 1 ∈ members words → (i : ℕ) × (i < 16) × Pair (get_or words i 0)
  both_in l even a b =
      let r : _ × _ = from_members words l a in
      let s : _ × _ = from_members words (l + 1) b in
      let low : 2 ≤ l = r.0.0 in
      let high : l < 1026 = r.0.1 in (
        (l - 2) / 64,
        omega arith,
        (
          (l - 2) % 64 / 2,
          omega arith,
          ap (bit (get_or words ((l - 2) / 64) 0)) (let q : 2 * ((l - 2) % 64 / 2) ≡ (l - 2) % 64 = omega arith in q)
              ∙ eqb-true (bit (get_or words ((l - 2) / 64) 0) ((l - 2) % 64)) 1 r.1,
          ap₂ (λ (x y : ℕ). bit (get_or words x 0) y) (let q : (l - 2) / 64 ≡ (l + 1 - 2) / 64 = omega arith in q)
              (let q : 2 * ((l - 2) % 64 / 2) + 1 ≡ (l + 1 - 2) % 64 = omega arith in q)
              ∙ eqb-true (bit (get_or words ((l + 1 - 2) / 64) 0) ((l + 1 - 2) % 64)) 1 s.1,
        ),
      )

  tautological_pair : Tautological (members words) → (i : ℕ) × (i < 16) × Pair (get_or words i 0)
  tautological_pair (l, a, b) =
      ⊎_elim (λ e. both_in l e.0 a (subst (λ k. k ∈ members words) e.1 b))
      (λ o. both_in (neg l) (omega (arith, o.2)) b (subst (λ k. k ∈ members words) o.1 a)) (neg_is l)

  -- some word has such a pair exactly if some variable stands with both signs
  pub any_pair : length words ≡ 16 → ((i : ℕ) → get_or words i 0 < 2 ^ 64) → (list_any paired words ≡ true) ↔ Tautological (members words)
  any_pair long small = (
    λ e. let r : (i : ℕ) × (i < length words) × (paired (get_or words i 0) ≡ true) = any_at paired words e in
        pair_tautological r.0 (omega (arith, long, r.1))
        (pair_from (get_or words r.0 0) (small r.0) (eqb-false (pairs (get_or words r.0 0)) 0 (not-true (eqb (pairs (get_or words r.0 0)) 0) r.2))),
    λ t. let r : (i : ℕ) × (i < 16) × Pair (get_or words i 0) = tautological_pair t in
        list_any_at paired words r.0 0 (omega (arith, long, r.1)) (ap not (ne_eqb (pairs (get_or words r.0 0)) 0 (λ z. no_pair (get_or words r.0 0) z r.2))),
  )
