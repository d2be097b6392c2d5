-- How cards act: on codes, on what is no variable, and on all literals once it is known of the variables.
use Rattle.std.proofs.Common.{◌≡◌, ℕ, ◌*◌, ◌/◌, ◌%◌, cond, eqb, get_or, sym, ap, ◌∙◌, subst, ⊎_elim, arith}
use Rattle.std.proofs.lemmas.Bool.{cases_eq}
use Rattle.calculus.specs.Literals.{var, neg}
use Rattle.calculus.specs.Meaning.{Variable, Code}
use Rattle.laws.specs.Cards.{Card, image_of, act}
use Rattle.laws.proofs.Exchange.{act_even, act_odd, act_double, act_negates, act_apart, image_code, stays}
use Rattle.laws.proofs.Sets.{neg_is, var_neg, same_var}
use Rattle.cards.specs.Images.{Permutes}

-- maps that take negations to negations are the same where they agree on the variables
pub by_variables : (f g : ℕ → ℕ) → ((l : ℕ) → f (neg l) ≡ neg (f l)) → ((l : ℕ) → g (neg l) ≡ neg (g l)) → ((v : ℕ) → f (2 * v) ≡ g (2 * v)) → (l : ℕ) → f l ≡ g l
by_variables f g f_negates g_negates same l =
    ⊎_elim (λ e. subst (λ k. f k ≡ g k) (sym e) (same (var l)))
    (λ e. subst (λ k. f k ≡ g k) (sym e) (f_negates (2 * var l) ∙ (ap neg (same (var l)) ∙ sym (g_negates (2 * var l)))))
    (same_var l (2 * var l) (omega arith))

-- cards with the same images act alike
pub act_same : (card other : Card) → card.images ≡ other.images → (l : ℕ) → act card l ≡ act other l
act_same card other e l = ap (λ is. cond (eqb (l % 2) 0) (get_or is (l / 2) (2 * (l / 2))) (neg (get_or is (l / 2) (2 * (l / 2))))) e

module _ (card : Card) where
  pub permutes : Permutes card.images
  permutes = record { long = card.long; none = card.none; codes = card.codes; apart = card.apart }

  -- a literal goes to a literal
  pub act_code : (l : ℕ) → Code 512 l → Code 512 (act card l)
  act_code l b =
      let c : Code 512 (image_of card (var l)) = image_code card (var l) (omega (arith, b.0), omega (arith, b.1)) in
      ⊎_elim (λ e. subst (Code 512) (sym (act_even card l e)) c)
      (λ n. let i = neg_is (image_of card (var l)) in
      subst (Code 512) (sym (act_odd card l n)) (omega (arith, c.0, i), omega (arith, c.1, i)))
      (cases_eq (l % 2) 0)

  -- literals whose images are over one variable are over one variable
  pub act_over : (l k : ℕ) → var (act card l) ≡ var (act card k) → var l ≡ var k
  act_over l k e =
      ⊎_elim (λ h. ap var (act_apart card l k h)) (λ h. ap var (act_apart card l (neg k) (h ∙ sym (act_negates card k))) ∙ var_neg k)
      (same_var (act card l) (act card k) e)

  pub unmoved : (v : ℕ) → (Variable 512 v → ⊥) → act card (2 * v) ≡ 2 * v
  unmoved v n = act_double card v ∙ stays card v n
