-- The numbers from n down to 1 that pass a test: how a block that is read holds its variables.
use Rattle.std.proofs.Common.{◌≡◌, ℕ, zero, suc, ◌+◌, ◌<◌, ◌≤◌, Bool, false, cond, List, [], ◌∷◌, ◌++◌, reverse, filter, sym, refl, ap, ◌∙◌, ⊎_elim, one-add, arith}
use Rattle.std.specs.List.{range_with_len}
use Rattle.std.proofs.lemmas.List.Elements.{filter-append}
use Rattle.std.proofs.lemmas.List.{append-nil, reverse-append}
use Rattle.std.proofs.lemmas.Bool.{cases_eq, cond_both, eq-eqb, ne_eqb}
use Rattle.calculus.specs.Sets.{has}

abbrev pub down : (ℕ → Bool) → ℕ → List ℕ
down p zero = []
down p (suc n) = cond (p (suc n)) (suc n ∷ down p n) (down p n)

pub has_above : (p : ℕ → Bool) (n v : ℕ) → n < v → has v (down p n) ≡ false
has_above p zero v h = refl
has_above p (suc n) v h =
    cond_both (p (suc n)) _ _ (λ vs. has v vs ≡ false) (λ _. rw (ne_eqb v (suc n) (λ e. omega arith)) (has_above p n v (omega arith)))
    (λ _. has_above p n v (omega arith))

pub has_zero : (p : ℕ → Bool) (n : ℕ) → has 0 (down p n) ≡ false
has_zero p zero = refl
has_zero p (suc n) = cond_both (p (suc n)) _ _ (λ vs. has 0 vs ≡ false) (λ _. rw (ne_eqb 0 (suc n) (λ e. omega arith)) (has_zero p n)) (λ _. has_zero p n)

-- a number from 1 to n stands among them exactly if it passes
pub has_down : (p : ℕ → Bool) (n v : ℕ) → 1 ≤ v → v ≤ n → has v (down p n) ≡ p v
has_down p zero v a b = absurd (omega arith)
has_down p (suc n) v a b =
    ⊎_elim
    (λ e. rw e (cond_both (p (suc n)) _ _ (λ vs. has (suc n) vs ≡ p (suc n)) (λ t. rw (eq-eqb (suc n) (suc n) refl) (sym t)) (λ f. has_above p n (suc n) (omega arith) ∙ sym f)))
    (λ ne. cond_both (p (suc n)) _ _ (λ vs. has v vs ≡ p v) (λ _. rw (ne_eqb v (suc n) ne) (has_down p n v a (omega arith))) (λ _. has_down p n v a (omega arith)))
    (cases_eq v (suc n))

-- one number more, at the end
pub counting_push : (a n : ℕ) → range_with_len a (suc n) ≡ range_with_len a n ++ ((a + n) ∷ [])
counting_push a zero = ap (λ x. x ∷ []) (let e : a ≡ a + 0 = omega arith in e)
counting_push a (suc n) =
    ap (λ xs. a ∷ xs) (counting_push (a + 1) n)
    ∙ ap (λ x. a ∷ (range_with_len (a + 1) n ++ (x ∷ []))) (let e : a + 1 + n ≡ a + suc n = omega arith in e)

pub counting_one_push : (n : ℕ) → range_with_len 1 (suc n) ≡ range_with_len 1 n ++ (suc n ∷ [])
counting_one_push n = counting_push 1 n ∙ ap (λ x. range_with_len 1 n ++ (x ∷ [])) (one-add n)

-- they are the numbers that pass, the latest first
pub down_reverse : (p : ℕ → Bool) (n : ℕ) → down p n ≡ reverse (filter p (range_with_len 1 n))
down_reverse p zero = refl
down_reverse p (suc n) =
    ap (λ (vs : List ℕ). cond (p (suc n)) (suc n ∷ vs) vs) (down_reverse p n)
    ∙ (cond_both (p (suc n)) _ _ (λ vs. vs ≡ reverse (filter p (range_with_len 1 n) ++ filter p (suc n ∷ []))) (λ t. rw (t, reverse-append)) (λ f. rw (f, append-nil))
    ∙ sym (ap reverse (ap (filter p) (counting_one_push n) ∙ filter-append p (range_with_len 1 n) (suc n ∷ []))))
