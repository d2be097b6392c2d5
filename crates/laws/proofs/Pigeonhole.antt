-- A map of the numbers below n into themselves that takes no two to one hits each of them.
use Rattle.std.proofs.Common.{◌≡◌, ℕ, zero, suc, ◌<◌, cond, eqb, ◌⊎◌, sym, ◌∙◌, inl, inr, ⊎_elim, arith}
use Rattle.std.proofs.lemmas.Bool.{cases_eq, cond-true, cond-false, eq-eqb, ne_eqb}

abbrev Into : ℕ → (ℕ → ℕ) → Type 0
Into n f = (v : ℕ) → v < n → f v < n

abbrev Single : ℕ → (ℕ → ℕ) → Type 0
Single n f = (v w : ℕ) → v < n → w < n → f v ≡ f w → v ≡ w

abbrev Hit : ℕ → (ℕ → ℕ) → ℕ → Type 0
Hit n f w = (v : ℕ) × (v < n) × (f v ≡ w)

-- f without its last place: what went to k goes to where k went
abbrev cut : ℕ → (ℕ → ℕ) → ℕ → ℕ
cut k f v = cond (eqb (f v) k) (f k) (f v)

module _ (k : ℕ) (f : ℕ → ℕ) (into : Into (suc k) f) (single : Single (suc k) f) where
  cut_last : (v : ℕ) → f v ≡ k → cut k f v ≡ f k
  cut_last v e = cond-true (eqb (f v) k) (f k) (f v) (eq-eqb (f v) k e)

  cut_other : (v : ℕ) → (f v ≡ k → ⊥) → cut k f v ≡ f v
  cut_other v n = cond-false (eqb (f v) k) (f k) (f v) (ne_eqb (f v) k n)

  cut_into : Into k (cut k f)
  cut_into v h = by (cases_eq (f v) k)
    where
      by : (f v ≡ k) ⊎ (f v ≡ k → ⊥) → cut k f v < k
      by (inl e) =
          let n : f k ≡ k → ⊥ = λ g. (let z : v ≡ k = single v k (omega arith) (omega arith) (e ∙ sym g) in omega arith) in
          omega (arith, cut_last v e, into k (omega arith))
      by (inr n) = omega (arith, cut_other v n, into v (omega arith))

  cut_single : Single k (cut k f)
  cut_single v w hv hw e = by (cases_eq (f v) k) (cases_eq (f w) k)
    where
      by : (f v ≡ k) ⊎ (f v ≡ k → ⊥) → (f w ≡ k) ⊎ (f w ≡ k → ⊥) → v ≡ w
      by (inl a) (inl b) = single v w (omega arith) (omega arith) (a ∙ sym b)
      by (inl a) (inr b) = absurd (let z : k ≡ w = single k w (omega arith) (omega arith) (sym (cut_last v a) ∙ (e ∙ cut_other w b)) in omega arith)
      by (inr a) (inl b) = absurd (let z : v ≡ k = single v k (omega arith) (omega arith) (sym (cut_other v a) ∙ (e ∙ cut_last w b)) in omega arith)
      by (inr a) (inr b) = single v w (omega arith) (omega arith) (sym (cut_other v a) ∙ (e ∙ cut_other w b))

  -- a hit of the cut map is one of f
  hit_more : (w : ℕ) → Hit k (cut k f) w → Hit (suc k) f w
  hit_more w (u, l, e) = ⊎_elim (λ a. (k, omega arith, sym (cut_last u a) ∙ e)) (λ a. (u, omega arith, sym (cut_other u a) ∙ e)) (cases_eq (f u) k)

  -- where k does not go to itself, something below it goes to k
  hit_last : (f k ≡ k → ⊥) → Hit k (cut k f) (f k) → Hit (suc k) f k
  hit_last n (u, l, e) =
      ⊎_elim (λ a. (u, omega arith, a)) (λ a. absurd (let z : u ≡ k = single u k (omega arith) (omega arith) (sym (cut_other u a) ∙ e) in omega arith)) (cases_eq (f u) k)

pub hits : (n : ℕ) (f : ℕ → ℕ) → Into n f → Single n f → (w : ℕ) → w < n → Hit n f w
hits zero f into single w h = absurd (omega arith)
hits (suc k) f into single w h =
    by (cases_eq w k) (cases_eq (f k) k) (λ u. hits k (cut k f) (cut_into k f into single) (cut_single k f into single) u)
  where
    by : (w ≡ k) ⊎ (w ≡ k → ⊥) → (f k ≡ k) ⊎ (f k ≡ k → ⊥) → ((u : ℕ) → u < k → Hit k (cut k f) u) → Hit (suc k) f w
    by (inr n) g below = hit_more k f into single w (below w (omega arith))
    by (inl e) (inl g) below = (k, omega arith, g ∙ sym e)
    by (inl e) (inr g) below =
        let (u, l, z) = hit_last k f into single g (below (f k) (omega (arith, into k (omega arith)))) in
        (u, l, z ∙ sym e)
