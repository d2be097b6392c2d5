-- Lists read as sets, and literals and their negations.
use Rattle.std.proofs.Common.{◌≡◌, ℕ, zero, suc, ◌+◌, ◌*◌, ◌/◌, ◌%◌, ◌<◌, true, cond, eqb, ltb, ◌⊎◌, List, [], ◌∷◌, ◌++◌, map, length, get_or, sym, refl, ap, ◌∙◌, inl, inr, ⊎_elim, arith}
use mathlib.Core.Bool.{false≢true}
use Rattle.std.proofs.lemmas.Bool.{cond_both, cases_eq, eqb-true, eqb-false, cond-true, cond-false, eq-eqb, ne_eqb, or_cases, or_left, or_right}
use Rattle.calculus.specs.Sets.{◌∈◌, has}
use Rattle.calculus.specs.Literals.{var, neg}
use Rattle.laws.specs.Claims.{insert, sorted, without}

pub in_left : {A : Type 0} (x : A) (xs ys : List A) → x ∈ xs → x ∈ (xs ++ ys)
in_left x [] ys m = absurd m
in_left x (z ∷ xs) ys (inl e) = inl e
in_left x (z ∷ xs) ys (inr m) = inr (in_left x xs ys m)

pub in_right : {A : Type 0} (x : A) (xs ys : List A) → x ∈ ys → x ∈ (xs ++ ys)
in_right x [] ys m = m
in_right x (z ∷ xs) ys m = inr (in_right x xs ys m)

pub in_append : {A : Type 0} (x : A) (xs ys : List A) → x ∈ (xs ++ ys) → (x ∈ xs) ⊎ (x ∈ ys)
in_append x [] ys m = inr m
in_append x (z ∷ xs) ys (inl e) = inl (inl e)
in_append x (z ∷ xs) ys (inr m) = ⊎_elim (λ h. inl (inr h)) (λ h. inr h) (in_append x xs ys m)

pub in_map : {A B : Type 0} (f : A → B) (x : A) (xs : List A) → x ∈ xs → f x ∈ map f xs
in_map f x [] m = absurd m
in_map f x (z ∷ xs) (inl e) = inl (ap f e)
in_map f x (z ∷ xs) (inr m) = inr (in_map f x xs m)

pub from_map : {A B : Type 0} (f : A → B) (y : B) (xs : List A) → y ∈ map f xs → (x : A) × (x ∈ xs) × (y ≡ f x)
from_map f y [] m = absurd m
from_map f y (z ∷ xs) (inl e) = (z, inl refl, e)
from_map f y (z ∷ xs) (inr m) = let r : (x : _) × (x ∈ xs) × (y ≡ f x) = from_map f y xs m in (r.0, inr r.1, r.2)

pub get_or_in : {A : Type 0} (xs : List A) (i : ℕ) (d : A) → i < length xs → get_or xs i d ∈ xs
get_or_in [] i d h = omega arith
get_or_in (x ∷ xs) zero d h = inl refl
get_or_in (x ∷ xs) (suc i) d h = inr (get_or_in xs i d (omega arith))

pub place_of : {A : Type 0} (x : A) (xs : List A) (d : A) → x ∈ xs → (i : ℕ) × (i < length xs) × (get_or xs i d ≡ x)
place_of x [] d m = absurd m
place_of x (y ∷ xs) d (inl e) = (0, omega arith, sym e)
place_of x (y ∷ xs) d (inr m) = let r : (i : ℕ) × (i < length xs) × (get_or xs i d ≡ x) = place_of x xs d m in (suc r.0, omega arith, r.2)

-- ascending order

pub in_insert : (x l : ℕ) (ys : List ℕ) → (l ≡ x) ⊎ (l ∈ ys) → l ∈ insert x ys
in_insert x l [] m = m
in_insert x l (y ∷ ys) m =
    cond_both (ltb x y) (x ∷ y ∷ ys) (cond (eqb x y) (y ∷ ys) (y ∷ insert x ys)) (λ zs. l ∈ zs) (λ e. m)
    (λ e. cond_both (eqb x y) (y ∷ ys) (y ∷ insert x ys) (λ zs. l ∈ zs)
    (λ e. ⊎_elim (λ h. inl (h ∙ eqb-true x y e)) (λ h. h) m)
    (λ e. ⊎_elim (λ h. inr (in_insert x l ys (inl h))) (⊎_elim (λ h. inl h) (λ h. inr (in_insert x l ys (inr h)))) m))

pub from_insert : (x l : ℕ) (ys : List ℕ) → l ∈ insert x ys → (l ≡ x) ⊎ (l ∈ ys)
from_insert x l [] m = m
from_insert x l (y ∷ ys) m =
    cond_both (ltb x y) (x ∷ y ∷ ys) (cond (eqb x y) (y ∷ ys) (y ∷ insert x ys)) (λ zs. l ∈ zs → (l ≡ x) ⊎ ((l ≡ y) ⊎ (l ∈ ys))) (λ e h. h)
    (λ e. cond_both (eqb x y) (y ∷ ys) (y ∷ insert x ys) (λ zs. l ∈ zs → (l ≡ x) ⊎ ((l ≡ y) ⊎ (l ∈ ys)))
    (λ e h. inr h)
    (λ e. ⊎_elim (λ h. inr (inl h)) (λ h. ⊎_elim (λ k. inl k) (λ k. inr (inr k)) (from_insert x l ys h))))
    m

pub in_sorted : (l : ℕ) (xs : List ℕ) → l ∈ xs → l ∈ sorted xs
in_sorted l [] m = absurd m
in_sorted l (x ∷ xs) (inl e) = in_insert x l (sorted xs) (inl e)
in_sorted l (x ∷ xs) (inr m) = in_insert x l (sorted xs) (inr (in_sorted l xs m))

pub from_sorted : (l : ℕ) (xs : List ℕ) → l ∈ sorted xs → l ∈ xs
from_sorted l [] m = m
from_sorted l (x ∷ xs) m = ⊎_elim (λ h. inl h) (λ h. inr (from_sorted l xs h)) (from_insert x l (sorted xs) m)

pub in_without : (x l : ℕ) (ys : List ℕ) → l ∈ ys → (l ≡ x → ⊥) → l ∈ without x ys
in_without x l [] m n = absurd m
in_without x l (y ∷ ys) m n =
    cond_both (eqb x y) (without x ys) (y ∷ without x ys) (λ zs. l ∈ zs)
    (λ e. ⊎_elim (λ h. absurd (n (h ∙ sym (eqb-true x y e)))) (λ h. in_without x l ys h n) m)
    (λ e. ⊎_elim (λ h. inl h) (λ h. inr (in_without x l ys h n)) m)

pub from_without : (x l : ℕ) (ys : List ℕ) → l ∈ without x ys → (l ∈ ys) × (l ≡ x → ⊥)
from_without x l [] m = absurd m
from_without x l (y ∷ ys) m =
    cond_both (eqb x y) (without x ys) (y ∷ without x ys) (λ zs. l ∈ zs → (l ∈ (y ∷ ys)) × (l ≡ x → ⊥))
    (λ e h. (inr (from_without x l ys h).0, (from_without x l ys h).1))
    (λ e. ⊎_elim (λ h. (inl h, λ k. eqb-false x y e (sym k ∙ h))) (λ h. (inr (from_without x l ys h).0, (from_without x l ys h).1)))
    m

-- negation of codes

pub neg_even : (l : ℕ) → l % 2 ≡ 0 → neg l ≡ 2 * (l / 2) + 1
neg_even l e = cond-true (eqb (l % 2) 0) (2 * (l / 2) + 1) (2 * (l / 2)) (eq-eqb (l % 2) 0 e)

pub neg_odd : (l : ℕ) → (l % 2 ≡ 0 → ⊥) → neg l ≡ 2 * (l / 2)
neg_odd l e = cond-false (eqb (l % 2) 0) (2 * (l / 2) + 1) (2 * (l / 2)) (ne_eqb (l % 2) 0 e)

-- what neg l is, as omega reads it
pub neg_is : (l : ℕ) → ((l % 2 ≡ 0) × (neg l ≡ l + 1)) ⊎ ((l % 2 ≡ 1) × (l ≡ neg l + 1) × (neg l ≡ 2 * (l / 2)))
neg_is l = ⊎_elim (λ e. inl (e, neg_even l e ∙ omega arith)) (λ e. inr (omega arith, omega (arith, neg_odd l e), neg_odd l e)) (cases_eq (l % 2) 0)

pub neg_neg : (l : ℕ) → neg (neg l) ≡ l
neg_neg l = omega (arith, neg_is l, neg_is (neg l))

pub var_neg : (l : ℕ) → var (neg l) ≡ var l
var_neg l = omega (arith, neg_is l)

pub neg_apart : (l : ℕ) → neg l ≡ l → ⊥
neg_apart l = omega (arith, neg_is l)

-- two codes over one variable
pub same_var : (l m : ℕ) → var l ≡ var m → (l ≡ m) ⊎ (l ≡ neg m)
same_var l m e = ⊎_elim (λ h. inl h) (λ h. inr (omega (arith, neg_is m))) (cases_eq l m)

pub neg_double : (v : ℕ) → neg (2 * v) ≡ 2 * v + 1
neg_double v = omega (arith, neg_is (2 * v))

-- the test that a list holds a number

pub has_true : (l : ℕ) (C : List ℕ) → has l C ≡ true → l ∈ C
has_true l [] h = absurd (false≢true h)
has_true l (k ∷ C) h = ⊎_elim (λ e. inl (eqb-true l k e)) (λ e. inr (has_true l C e)) (or_cases (eqb l k) (has l C) h)

pub has_from : (l : ℕ) (C : List ℕ) → l ∈ C → has l C ≡ true
has_from l [] m = absurd m
has_from l (k ∷ C) (inl e) = or_left (eqb l k) (has l C) (eq-eqb l k e)
has_from l (k ∷ C) (inr m) = or_right (eqb l k) (has l C) (has_from l C m)
