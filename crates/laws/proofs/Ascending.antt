-- Ascending clauses: one list for each set.
use Rattle.std.proofs.Common.{◌≡◌, ℕ, ◌<◌, ◌≤◌, cond, eqb, ltb, ◌⊎◌, List, [], ◌∷◌, refl, ap₂, inl, inr, ⊎_elim, arith}
use Rattle.std.proofs.lemmas.Bool.{cond_both, eqb-false, ltb-true, ltb-false}
use Rattle.calculus.specs.Sets.{◌∈◌, Same}
use Rattle.laws.specs.Clauses.{Ascending}
use Rattle.laws.specs.Claims.{insert, sorted}
use Rattle.laws.proofs.Sets.{from_insert, in_sorted, from_sorted}

pub asc_insert : (x : ℕ) (ys : List ℕ) → Ascending ys → Ascending (insert x ys)
asc_insert x [] a = (λ y m. absurd m, tt)
asc_insert x (y ∷ ys) a =
    cond_both (ltb x y) (x ∷ y ∷ ys) (cond (eqb x y) (y ∷ ys) (y ∷ insert x ys)) Ascending
    (λ e. let h : x < y = ltb-true x y e in (λ z. ⊎_elim (λ k. omega arith) (λ m. let g : y < z = a.0 z m in omega arith), a))
    (λ e. let h : y ≤ x = ltb-false x y e in
    cond_both (eqb x y) (y ∷ ys) (y ∷ insert x ys) Ascending (λ f. a)
    (λ f. let n : x ≡ y → ⊥ = eqb-false x y f in (λ z m. ⊎_elim (λ k. omega arith) (λ k. a.0 z k) (from_insert x z ys m), asc_insert x ys a.1)))

pub asc_sorted : (xs : List ℕ) → Ascending (sorted xs)
asc_sorted [] = tt
asc_sorted (x ∷ xs) = asc_insert x (sorted xs) (asc_sorted xs)

pub asc_same : (xs ys : List ℕ) → Ascending xs → Ascending ys → Same xs ys → xs ≡ ys
asc_same [] [] a b same = refl
asc_same [] (y ∷ ys) a b same = absurd ((same y).1 (inl refl))
asc_same (x ∷ xs) [] a b same = absurd ((same x).0 (inl refl))
asc_same (x ∷ xs) (y ∷ ys) a b same = ap₂ (λ z zs. z ∷ zs) e (asc_same xs ys a.1 b.1 (λ z. (to z, fro z)))
  where
    up : (x ≡ y) ⊎ (x ∈ ys) → y ≤ x
    up (inl h) = omega arith
    up (inr m) = let h : y < x = b.0 x m in omega arith

    down : (y ≡ x) ⊎ (y ∈ xs) → x ≤ y
    down (inl h) = omega arith
    down (inr m) = let h : x < y = a.0 y m in omega arith

    e : x ≡ y
    e = let h : y ≤ x = up ((same x).0 (inl refl)) in let k : x ≤ y = down ((same y).1 (inl refl)) in omega arith

    to : (z : ℕ) → z ∈ xs → z ∈ ys
    to z m = ⊎_elim (λ h. let k : x < z = a.0 z m in let f : x ≡ y = e in absurd (omega arith)) (λ h. h) ((same z).0 (inr m))

    fro : (z : ℕ) → z ∈ ys → z ∈ xs
    fro z m = ⊎_elim (λ h. let k : y < z = b.0 z m in let f : x ≡ y = e in absurd (omega arith)) (λ h. h) ((same z).1 (inr m))

pub sorted_asc : (xs : List ℕ) → Ascending xs → sorted xs ≡ xs
sorted_asc xs a = asc_same (sorted xs) xs (asc_sorted xs) a (λ l. (from_sorted l xs, in_sorted l xs))
