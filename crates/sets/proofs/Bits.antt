-- Bits of words: which ones a disjunction and a conjunction have, and that the bits make the word.
use Rattle.std.proofs.Common.{◌≡◌, ℕ, zero, suc, ◌+◌, ◌-◌, ◌*◌, ◌/◌, ◌%◌, ◌^◌, ◌<◌, true, eqb, List, length, get_or, set, sym, refl, ap, ◌∙◌, ap₂, inl, inr, ⊎_elim, one-mul, zero-mul, one-add, arith, lit<, get_or-set_other, get_or-set_same}
use native.Mathlib.Nat.{zero-div, div-eq_of_lt}
use lib.Bits.{bit_and, bit_or, and_shr, and_mod, or_shr, or_mod, or_zero_r, shifted_even}
use Rattle.std.proofs.lemmas.Nat.{pow-add, shl-shr, pow_below, mod_below, mod-pow-add, or_lt}
use Rattle.std.proofs.lemmas.Bool.{cases_eq, cases_order, eq-eqb, ne_eqb, eqb-true, eqb-false}
use Rattle.sets.specs.Members.{bit, has_bit}
use Rattle.sets.specs.Steps.{with_bit}

pub bit_below : (w i : ℕ) → bit w i < 2
bit_below w i = mod_below (w / 2 ^ i) 2 (lit< tt)

pub zero_bit : (i : ℕ) → bit 0 i ≡ 0
zero_bit i = ap (λ (x : ℕ). x % 2) (zero-div (2 ^ i))

pub or_bits : (v w i : ℕ) → bit (bit_or v w) i ≡ bit_or (bit v i) (bit w i)
or_bits v w i = ap (λ (x : ℕ). x % 2) (or_shr v w i) ∙ or_mod (v / 2 ^ i) (w / 2 ^ i) 1

pub and_bits : (v w i : ℕ) → bit (bit_and v w) i ≡ bit_and (bit v i) (bit w i)
and_bits v w i = ap (λ (x : ℕ). x % 2) (and_shr v w i) ∙ and_mod (v / 2 ^ i) (w / 2 ^ i) 1

-- a bit is known by the test that it is 1
pub same_test : (x y : ℕ) → x < 2 → y < 2 → eqb x 1 ≡ eqb y 1 → x ≡ y
same_test x y h k e =
    ⊎_elim (λ a. a ∙ sym (eqb-true y 1 (sym e ∙ eq-eqb x 1 a))) (λ a. let n : y ≡ 1 → ⊥ = eqb-false y 1 (sym e ∙ ne_eqb x 1 a) in omega arith) (cases_eq x 1)

-- the bits make the word

-- the front of a word, one bit more
front_more : (w k : ℕ) → w % 2 ^ suc k ≡ bit w k * 2 ^ k + w % 2 ^ k
front_more w k = ap (λ (x : ℕ). w % 2 ^ x) (sym (one-add k)) ∙ mod-pow-add w 1 k

pub same_bits : (v w k : ℕ) → ((i : ℕ) → i < k → bit v i ≡ bit w i) → v % 2 ^ k ≡ w % 2 ^ k
same_bits v w zero h = omega arith
same_bits v w (suc k) h =
    front_more v k ∙ ap₂ (λ (x y : ℕ). x * 2 ^ k + y) (h k (omega arith)) (same_bits v w k (λ i lt. h i (omega arith))) ∙ sym (front_more w k)

-- what is not 0 has some bit set
pub some_bit : (w k : ℕ) → (w % 2 ^ k ≡ 0 → ⊥) → (i : ℕ) × (i < k) × (bit w i ≡ 1)
some_bit w zero h = absurd (h (omega arith))
some_bit w (suc k) h =
    ⊎_elim (λ e. (k, omega arith, e))
    (λ n. let z : bit w k ≡ 0 = (let b : bit w k < 2 = bit_below w k in omega arith) in
    let r : (i : ℕ) × (i < k) × (bit w i ≡ 1) =
    some_bit w k (λ m. h (front_more w k ∙ ap (λ (x : ℕ). x * 2 ^ k + w % 2 ^ k) z ∙ omega (arith, zero-mul (2 ^ k)))) in
    (r.0, omega (arith, r.1), r.2)) (cases_eq (bit w k) 1)

-- a bit that is set

or_one : (x : ℕ) → x < 2 → bit_or x 1 ≡ 1
or_one zero h = refl
or_one (suc zero) h = refl
or_one (suc (suc n)) h = absurd (omega arith)

power_same : (j : ℕ) → bit (2 ^ j) j ≡ 1
power_same j = ap (λ (x : ℕ). x % 2) (rw one-mul at (shl-shr 1 j))

-- a power divided by a smaller one
power_quotient : (i d : ℕ) → 2 ^ (suc d + i) / 2 ^ i ≡ 1 * 2 ^ suc d
power_quotient i d = ap (λ (x : ℕ). x / 2 ^ i) (pow-add 2 (suc d) i) ∙ shl-shr (2 ^ suc d) i ∙ sym (one-mul (2 ^ suc d))

power_other : (j i : ℕ) → (i ≡ j → ⊥) → bit (2 ^ j) i ≡ 0
power_other j i n =
    elim (cases_order i j) [
      | inl e ↦ absurd (n e)
      | inr o ↦
          elim o [
            | inl h ↦
                let e : j ≡ suc (j - i - 1) + i = omega arith in
                ap (λ (x : ℕ). bit (2 ^ x) i) e ∙ ap (λ (x : ℕ). x % 2) (power_quotient i (j - i - 1)) ∙ shifted_even 1 (j - i - 1)
            | inr h ↦ ap (λ (x : ℕ). x % 2) (div-eq_of_lt (pow_below j i h))
          ]
    ]

or_same : (w j : ℕ) → bit (bit_or w (2 ^ j)) j ≡ 1
or_same w j = or_bits w (2 ^ j) j ∙ ap (bit_or (bit w j)) (power_same j) ∙ or_one (bit w j) (bit_below w j)

or_other : (w j i : ℕ) → (i ≡ j → ⊥) → bit (bit_or w (2 ^ j)) i ≡ bit w i
or_other w j i n = or_bits w (2 ^ j) i ∙ ap (bit_or (bit w i)) (power_other j i n) ∙ or_zero_r (bit w i)

-- a word that takes bits of 64 has 64 bits
pub small_more : (words : List ℕ) → ((k : ℕ) → get_or words k 0 < 2 ^ 64) → (i x : ℕ) → x < 2 ^ 64 → i < length words
    → (k : ℕ) → get_or (set words i (bit_or (get_or words i 0) x)) k 0 < 2 ^ 64
small_more words small i x h lt k =
    ⊎_elim
    (λ e. omega (arith, get_or-set_same words i (bit_or (get_or words i 0) x) 0 lt, ap (λ (j : ℕ). get_or (set words i (bit_or (get_or words i 0) x)) j 0) e, or_lt 64 (get_or words i 0) x (small i) h))
    (λ n. omega (arith, get_or-set_other words i k (bit_or (get_or words i 0) x) 0 n, small k)) (cases_eq k i)

module _ (words : List ℕ) where
  -- the bit of a literal, by its word and its place there
  pub bit_at : (i b : ℕ) → b < 64 → has_bit words (2 + (64 * i + b)) ≡ eqb (bit (get_or words i 0) b) 1
  bit_at i b h =
      ap₂ (λ (x y : ℕ). eqb (bit (get_or words x 0) y) 1) (let e : (2 + (64 * i + b) - 2) / 64 ≡ i = omega arith in e) (let e : (2 + (64 * i + b) - 2) % 64 ≡ b = omega arith in e)

  module _ (l : ℕ) (inside : (l - 2) / 64 < length words) where
    abbrev place : ℕ
    place = (l - 2) / 64

    abbrev changed : ℕ
    changed = bit_or (get_or words place 0) (2 ^ ((l - 2) % 64))

    -- the bit that was set is there
    pub set_same : has_bit (with_bit words l) l ≡ true
    set_same =
        ap (λ (x : ℕ). eqb (bit x ((l - 2) % 64)) 1) (get_or-set_same words place changed 0 inside) ∙ eq-eqb (bit changed ((l - 2) % 64)) 1 (or_same (get_or words place 0) ((l - 2) % 64))

    -- and the others are as they were
    pub set_other : (k : ℕ) → (k - 2 ≡ l - 2 → ⊥) → has_bit (with_bit words l) k ≡ has_bit words k
    set_other k n =
        elim (cases_eq ((k - 2) / 64) place) [
          | inl e ↦
              ap (λ (x : ℕ). eqb (bit x ((k - 2) % 64)) 1) (ap (λ (i : ℕ). get_or (with_bit words l) i 0) e ∙ get_or-set_same words place changed 0 inside)
              ∙ ap (λ (x : ℕ). eqb x 1) (or_other (get_or words place 0) ((l - 2) % 64) ((k - 2) % 64) (λ m. n (omega arith)))
              ∙ ap (λ (i : ℕ). eqb (bit (get_or words i 0) ((k - 2) % 64)) 1) (sym e)
          | inr m ↦ ap (λ (x : ℕ). eqb (bit x ((k - 2) % 64)) 1) (get_or-set_other words place ((k - 2) / 64) changed 0 m)
        ]
