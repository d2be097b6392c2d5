-- Which words say numbers.
use Rattle.std.proofs.Common.{◌≡◌, ℕ, ◌<◌, ◌≤◌, Bool, true, false, ◌&&◌, eqb, List, [], ◌∷◌, get_or, drop, Some, None, decimal, Option, sym, refl, ap, ◌∙◌, ⊎_elim, arith}
use Rattle.std.proofs.lemmas.Bool.{cases_Bool, cond_both, cond-true, cond-false, eqb-true, eqb-false, ne_eqb}
use Rattle.std.proofs.lemmas.Fmt.{decimal_nonempty}
use Rattle.words.specs.declared.token.Token.{Token}
use Rattle.words.specs.declared.token.Token.TheVariants.{Problem, Cnf, Exists, Forall, Number, Negative, Other}
use Rattle.words.specs.Tokens.{natural, name, negated, counted, token_of}
use Rattle.words.specs.Theorems.{NumbersAreDecimals}
use Rattle.words.proofs.Numbers.{numeric_decimal, numeric_first, natural_decimal, decimal_natural}

abbrev numberless : Token → Bool
numberless Problem = true
numberless Cnf = true
numberless Exists = true
numberless Forall = true
numberless (Number k) = false
numberless (Negative k) = false
numberless Other = true

name_numberless : (w : List ℕ) → numberless (name w) ≡ true
name_numberless [] = refl
name_numberless (b ∷ []) =
    let P = λ (t : Token). numberless t ≡ true in
    cond_both (eqb b 112) _ _ P (λ _. refl)
    (λ _. cond_both (eqb b 101) _ _ P (λ _. refl) (λ _. cond_both (eqb b 97) _ _ P (λ _. refl) (λ _. refl)))
name_numberless (b ∷ d ∷ []) = refl
name_numberless (b ∷ d ∷ f ∷ []) =
    cond_both (eqb b 99 && (eqb d 110 && eqb f 102)) _ _ (λ (t : Token). numberless t ≡ true) (λ _. refl) (λ _. refl)
name_numberless (b ∷ d ∷ f ∷ x ∷ xs) = refl

counted_number : (w : List ℕ) (o : Option ℕ) (k : ℕ) → counted w o ≡ Number k → o ≡ Some k
counted_number w None k h = cc (name_numberless w)
counted_number w (Some j) k h = cc

counted_negative : (w : List ℕ) (o : Option ℕ) (k : ℕ) → counted w o ≡ Negative k → ⊥
counted_negative w None k h = let z : ◌≡◌ {A = ℕ} 0 1 = cc (name_numberless w) in omega arith
counted_negative w (Some j) k h = let z : ◌≡◌ {A = ℕ} 0 1 = cc in omega arith

negated_number : (o : Option ℕ) (k : ℕ) → negated o ≡ Number k → ⊥
negated_number None k h = let z : ◌≡◌ {A = ℕ} 0 1 = cc in omega arith
negated_number (Some j) k h =
    cond_both (eqb j 0) Other (Negative j) (λ t. t ≡ Number k → ⊥) (λ _ e. let z : ◌≡◌ {A = ℕ} 0 1 = cc in omega arith)
    (λ _ e. let z : ◌≡◌ {A = ℕ} 0 1 = cc in omega arith) h

negated_negative : (o : Option ℕ) (k : ℕ) → negated o ≡ Negative k → (o ≡ Some k) × (1 ≤ k)
negated_negative None k h = let z : ◌≡◌ {A = ℕ} 0 1 = cc in absurd (omega arith)
negated_negative (Some j) k h =
    cond_both (eqb j 0) Other (Negative j) (λ t. t ≡ Negative k → (Some j ≡ Some k) × (1 ≤ k))
    (λ _ e. let z : ◌≡◌ {A = ℕ} 0 1 = cc in absurd (omega arith))
    (λ nz e. let same : j ≡ k = cc in (ap Some same, let ne = eqb-false j 0 nz in omega arith)) h

signed_word : (w : List ℕ) → get_or w 0 0 ≡ 45 → w ≡ 45 ∷ drop 1 w
signed_word [] h = absurd (omega arith)
signed_word (b ∷ bs) h = ap (λ x. x ∷ bs) h

module _ (w : List ℕ) where
  with_sign : eqb (get_or w 0 0) 45 ≡ true → token_of w ≡ negated (natural (drop 1 w))
  with_sign e = cond-true (eqb (get_or w 0 0) 45) _ _ e

  without_sign : eqb (get_or w 0 0) 45 ≡ false → token_of w ≡ counted w (natural w)
  without_sign e = cond-false (eqb (get_or w 0 0) 45) _ _ e

  number_is : (k : ℕ) → token_of w ≡ Number k → (k < 100000) × (w ≡ decimal k)
  number_is k h =
      ⊎_elim
      (λ e. absurd (negated_number (natural (drop 1 w)) k (sym (with_sign e) ∙ h)))
      (λ e. natural_decimal w k (counted_number w (natural w) k (sym (without_sign e) ∙ h)))
      (cases_Bool (eqb (get_or w 0 0) 45))

  negative_is : (k : ℕ) → token_of w ≡ Negative k → (1 ≤ k) × (k < 100000) × (w ≡ 45 ∷ decimal k)
  negative_is k h =
      ⊎_elim
      (λ e.
      let p = negated_negative (natural (drop 1 w)) k (sym (with_sign e) ∙ h) in
      let q = natural_decimal (drop 1 w) k p.0 in
      (p.1, q.0, signed_word w (eqb-true (get_or w 0 0) 45 e) ∙ ap (λ x. 45 ∷ x) q.1))
      (λ e. absurd (counted_negative w (natural w) k (sym (without_sign e) ∙ h)))
      (cases_Bool (eqb (get_or w 0 0) 45))

-- a decimal numeral says its number
pub number_of_decimal : (k : ℕ) → k < 100000 → token_of (decimal k) ≡ Number k
number_of_decimal k h =
    let d = numeric_first (decimal k) (decimal_nonempty k (omega arith)) (numeric_decimal k h) in
    without_sign (decimal k) (ne_eqb (get_or (decimal k) 0 0) 45 (λ e. omega arith)) ∙ ap (counted (decimal k)) (decimal_natural k h)

-- and behind a sign the number below zero
pub negative_of_decimal : (k : ℕ) → 1 ≤ k → k < 100000 → token_of (45 ∷ decimal k) ≡ Negative k
negative_of_decimal k some h =
    ap negated (decimal_natural k h) ∙ cond-false (eqb k 0) Other (Negative k) (ne_eqb k 0 (λ e. omega arith))

pub numbers_are_decimals : NumbersAreDecimals
numbers_are_decimals w k = (
  (number_is w k, λ h. ap token_of h.1 ∙ number_of_decimal k h.0),
  (negative_is w k, λ h. ap token_of h.2 ∙ negative_of_decimal k h.0 h.1),
)
