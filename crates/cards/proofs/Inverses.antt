-- The images that take those of a card back, and that they make the card that undoes it.
use Rattle.std.proofs.Common.{◌≡◌, ℕ, ◌+◌, ◌*◌, ◌%◌, ◌<◌, ◌≤◌, List, length, get_or, sym, ap, ◌∙◌, subst, ⊎_elim, arith, ext_get_or}
use Rattle.std.proofs.lemmas.Bool.{cases_eq}
use Rattle.calculus.specs.Literals.{var}
use Rattle.calculus.specs.Meaning.{Variable, Code}
use Rattle.laws.specs.Cards.{Card, image_of, act, Undoes}
use Rattle.laws.proofs.Exchange.{act_even, act_odd, act_double, inside}
use Rattle.laws.proofs.Inverse.{undone, undone_by}
use Rattle.laws.proofs.Sets.{neg_is}
use Rattle.cards.specs.Images.{Permutes}
use Rattle.cards.proofs.Actions.{act_same, act_code, permutes}

-- the images of the variables below n are taken back
pub record Backed (card : Card) (n : ℕ) (images : List ℕ) : Type 0 where
  pub long : length images ≡ 513
  pub none : get_or images 0 0 ≡ 0
  pub each : (v : ℕ) → 1 ≤ v → v < n → get_or images (var (get_or card.images v 0)) 0 ≡ 2 * v + get_or card.images v 0 % 2

module _ (card : Card) (n : ℕ) (images : List ℕ) (all : 513 ≤ n) (backed : Backed card n images) where
  abbrev back : Card
  back = (undone card).0

  -- the literal whose image is w stands at place w
  taken_back : (w l : ℕ) → Code 512 l → act card l ≡ 2 * w → get_or images w 0 ≡ l
  taken_back w l b e =
      let v : Variable 512 (var l) = (omega (arith, b.0), omega (arith, b.1)) in
      let is = inside card (var l) v in
      let x : (var (get_or card.images (var l) 0) ≡ w) × (2 * var l + get_or card.images (var l) 0 % 2 ≡ l) =
      ⊎_elim (λ h. let g = act_even card l h in (omega arith, omega arith))
      (λ h. let g = act_odd card l h in let i = neg_is (image_of card (var l)) in (omega arith, omega arith)) (cases_eq (l % 2) 0) in
      ap (λ u. get_or images u 0) (sym x.0) ∙ (backed.each (var l) v.0 (omega (arith, v.1)) ∙ x.1)

  at : (w : ℕ) → Variable 512 w → get_or images w 0 ≡ get_or back.images w 0
  at w b =
      taken_back w (act back (2 * w)) (act_code back (2 * w) (omega (arith, b.0), omega (arith, b.1))) ((undone card).2 (2 * w))
      ∙ (act_double back w ∙ inside back w b)

  same : images ≡ back.images
  same =
      ext_get_or 0 images back.images (backed.long ∙ sym back.long)
      (λ w h. ⊎_elim (λ e. ap (λ u. get_or images u 0) e ∙ (backed.none ∙ sym (ap (λ u. get_or back.images u 0) e ∙ back.none)))
      (λ n. at w (omega arith, omega (arith, backed.long))) (cases_eq w 0))

  pub inverted : Permutes images
  inverted = subst Permutes (sym same) (permutes back)

  pub undoes : (other : Card) → other.images ≡ images → Undoes other card
  undoes other e l = act_same other back (e ∙ same) (act card l) ∙ (undone card).1 l

  pub is_undone : (other : Card) → other.images ≡ images → Undoes card other
  is_undone other e = undone_by card other (undoes other e)
