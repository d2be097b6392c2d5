-- The images of two cards one after the other, and that they make the card that joins them.
use Rattle.std.proofs.Common.{◌≡◌, ℕ, ◌*◌, ◌<◌, List, length, get_or, sym, ap, ◌∙◌, subst, ⊎_elim, arith}
use Rattle.calculus.specs.Literals.{var}
use Rattle.calculus.specs.Meaning.{Variable, Code}
use Rattle.laws.specs.Cards.{Card, act}
use Rattle.laws.proofs.Exchange.{act_double, act_negates, inside}
use Rattle.laws.proofs.Formedness.{cases_variable}
use Rattle.cards.specs.Images.{Permutes}
use Rattle.cards.specs.Maps.{Joins}
use Rattle.cards.proofs.Actions.{by_variables, act_code, act_over, unmoved}

-- each variable has the image that second gives that of first
pub record Joined (first second : Card) (images : List ℕ) : Type 0 where
  pub long : length images ≡ 513
  pub each : (v : ℕ) → v < 513 → get_or images v 0 ≡ act second (get_or first.images v 0)

module _ (first second : Card) (images : List ℕ) (joined : Joined first second images) where
  at : (v : ℕ) → Variable 512 v → get_or images v 0 ≡ act second (get_or first.images v 0)
  at v b = joined.each v (omega (arith, b.1))

  pub permuted : Permutes images
  permuted = record {
    long = joined.long;
    none = joined.each 0 (omega arith) ∙ (ap (act second) first.none ∙ unmoved second 0 (λ b. omega (arith, b.0)));
    codes = λ v b. subst (Code 512) (sym (at v b)) (act_code second (get_or first.images v 0) (first.codes v b));
    apart = λ v w b c e.
        first.apart v w b c (act_over second (get_or first.images v 0) (get_or first.images w 0) (sym (ap var (at v b)) ∙ (e ∙ ap var (at w c))));
  }

  moves : (card : Card) → card.images ≡ images → (v : ℕ) → act card (2 * v) ≡ act second (act first (2 * v))
  moves card e v =
      ⊎_elim
      (λ b. act_double card v
      ∙ (inside card v b
      ∙ (ap (λ is. get_or is v 0) e ∙ (at v b ∙ ap (act second) (sym (act_double first v ∙ inside first v b))))))
      (λ n. unmoved card v n ∙ sym (ap (act second) (unmoved first v n) ∙ unmoved second v n))
      (cases_variable 512 v)

  pub joins : (card : Card) → card.images ≡ images → Joins card first second
  joins card e =
      by_variables (act card) (λ l. act second (act first l)) (act_negates card)
      (λ l. ap (act second) (act_negates first l) ∙ act_negates second (act first l)) (moves card e)
