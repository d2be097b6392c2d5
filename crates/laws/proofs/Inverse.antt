-- Every card is undone by another.
use Rattle.std.proofs.Common.{◌≡◌, ℕ, zero, suc, ◌+◌, ◌*◌, ◌%◌, ◌<◌, cond, eqb, ◌⊎◌, List, [], ◌∷◌, map, length, get_or, sym, ap, ◌∙◌, subst, inl, inr, ⊎_elim, arith}
use Rattle.std.specs.List.{range_with_len}
use Rattle.std.proofs.lemmas.Bool.{cases_eq, cond_both, cond-true, cond-false, eq-eqb, ne_eqb, eqb-true, eqb-false}
use Rattle.std.proofs.lemmas.List.FromFn.{length-map-range_with_len, get_or-map-range_with_len}
use Rattle.calculus.specs.Literals.{var, neg}
use Rattle.calculus.specs.Meaning.{Variable, Code}
use Rattle.laws.specs.Cards.{Card, image_of, act, Undoes}
use Rattle.laws.specs.Theorems.{CardsUndone}
use Rattle.laws.proofs.Sets.{neg_neg, neg_double, same_var}
use Rattle.laws.proofs.Formedness.{cases_variable}
use Rattle.laws.proofs.Exchange.{act_even, act_odd, act_double, act_negates, act_apart, inside, stays, image_code}
use Rattle.laws.proofs.Pigeonhole.{hits}

-- the first place that holds a code over w
abbrev place_over : List ℕ → ℕ → ℕ
place_over [] w = 0
place_over (x ∷ xs) w = cond (eqb (var x) w) 0 (suc (place_over xs w))

place_right : (xs : List ℕ) (w v : ℕ) → v < length xs → var (get_or xs v 0) ≡ w → (place_over xs w < length xs) × (var (get_or xs (place_over xs w) 0) ≡ w)
place_right [] w v h e = absurd (omega arith)
place_right (x ∷ xs) w zero h e =
    cond_both (eqb (var x) w) 0 (suc (place_over xs w)) (λ p. (p < length (x ∷ xs)) × (var (get_or (x ∷ xs) p 0) ≡ w)) (λ f. (omega arith, e)) (λ f. absurd (eqb-false (var x) w f e))
place_right (x ∷ xs) w (suc v) h e =
    cond_both (eqb (var x) w) 0 (suc (place_over xs w)) (λ p. (p < length (x ∷ xs)) × (var (get_or (x ∷ xs) p 0) ≡ w)) (λ f. (omega arith, eqb-true (var x) w f))
    (λ f. let r : (place_over xs w < length xs) × (var (get_or xs (place_over xs w) 0) ≡ w) = place_right xs w v (omega arith) e in (omega arith, r.1))

module _ (card : Card) where
  abbrev over : ℕ → ℕ
  over v = var (get_or card.images v 0)

  over_none : over 0 ≡ 0
  over_none = ap var card.none

  over_variable : (v : ℕ) → Variable 512 v → Variable 512 (over v)
  over_variable v b = let c : Code 512 (get_or card.images v 0) = card.codes v b in (omega (arith, c.0), omega (arith, c.1))

  over_into : (v : ℕ) → v < 513 → over v < 513
  over_into v h =
      ⊎_elim (λ e. let z : over v ≡ 0 = ap over e ∙ over_none in omega arith)
      (λ n. let b : Variable 512 (over v) = over_variable v (omega arith, omega arith) in omega (arith, b.1)) (cases_eq v 0)

  over_single : (v w : ℕ) → v < 513 → w < 513 → over v ≡ over w → v ≡ w
  over_single v w hv hw e = by (cases_eq v 0) (cases_eq w 0)
    where
      by : (v ≡ 0) ⊎ (v ≡ 0 → ⊥) → (w ≡ 0) ⊎ (w ≡ 0 → ⊥) → v ≡ w
      by (inl a) (inl b) = a ∙ sym b
      by (inl a) (inr b) = absurd (let z : over v ≡ 0 = ap over a ∙ over_none in let c : Variable 512 (over w) = over_variable w (omega arith, omega arith) in omega (arith, c.0))
      by (inr a) (inl b) = absurd (let z : over w ≡ 0 = ap over b ∙ over_none in let c : Variable 512 (over v) = over_variable v (omega arith, omega arith) in omega (arith, c.0))
      by (inr a) (inr b) = card.apart v w (omega arith, omega arith) (omega arith, omega arith) e

  -- the variable whose image is over w
  abbrev source : ℕ → ℕ
  source w = place_over card.images w

  source_right : (w : ℕ) → w < 513 → (source w < 513) × (over (source w) ≡ w)
  source_right w h =
      let (v, l, e) = hits 513 over over_into over_single w h in
      let r : (source w < length card.images) × (over (source w) ≡ w) = place_right card.images w v (omega (arith, card.long)) e in
      (omega (arith, card.long, r.0), r.1)

  source_variable : (w : ℕ) → Variable 512 w → Variable 512 (source w)
  source_variable w b =
      let r : (source w < 513) × (over (source w) ≡ w) = source_right w (omega (arith, b.1)) in
      ⊎_elim (λ e. absurd (let z : over (source w) ≡ 0 = ap over e ∙ over_none in omega (arith, b.0, r.1))) (λ n. (omega arith, omega (arith, r.0))) (cases_eq (source w) 0)

  -- the literal whose image is the variable w
  abbrev code_back : ℕ → ℕ
  code_back w = cond (eqb (get_or card.images (source w) 0 % 2) 0) (2 * source w) (2 * source w + 1)

  var_back : (w : ℕ) → var (code_back w) ≡ source w
  var_back w = cond_both (eqb (get_or card.images (source w) 0 % 2) 0) (2 * source w) (2 * source w + 1) (λ x. var x ≡ source w) (λ e. omega arith) (λ e. omega arith)

  abbrev images_back : List ℕ
  images_back = map code_back (range_with_len 0 513)

  at_back : (w d : ℕ) → w < 513 → get_or images_back w d ≡ code_back w
  at_back w d h = get_or-map-range_with_len code_back 0 513 w w d h (omega arith)

  none_back : get_or images_back 0 0 ≡ 0
  none_back =
      let r : (source 0 < 513) × (over (source 0) ≡ 0) = source_right 0 (omega arith) in
      let z : source 0 ≡ 0 = over_single (source 0) 0 r.0 (omega arith) (r.1 ∙ sym over_none) in
      let e : get_or card.images (source 0) 0 ≡ 0 = ap (λ v. get_or card.images v 0) z ∙ card.none in
      at_back 0 0 (omega arith)
      ∙ (cond-true (eqb (get_or card.images (source 0) 0 % 2) 0) (2 * source 0) (2 * source 0 + 1) (eq-eqb (get_or card.images (source 0) 0 % 2) 0 (omega arith)) ∙ omega arith)

  abbrev inverse : Card
  inverse = record {
    images = images_back;
    long = length-map-range_with_len code_back 0 513;
    none = none_back;
    codes = λ w b.
        let s : Variable 512 (source w) = source_variable w b in
        let e : get_or images_back w 0 ≡ code_back w = at_back w 0 (omega (arith, b.1)) in
        let f : var (code_back w) ≡ source w = var_back w in
        (omega (arith, s.0), omega (arith, s.1));
    apart = λ w u b c e.
        let g : source w ≡ source u =
        sym (var_back w) ∙ (ap var (sym (at_back w 0 (omega (arith, b.1)))) ∙ (e ∙ (ap var (at_back u 0 (omega (arith, c.1))) ∙ var_back u))) in
        sym (source_right w (omega (arith, b.1))).1 ∙ (ap over g ∙ (source_right u (omega (arith, c.1))).1);
  }

  -- back from the image of a variable
  back_from : (v : ℕ) → Variable 512 v → act inverse (image_of card v) ≡ 2 * v
  back_from v b =
      ⊎_elim (λ e. act_even inverse x e ∙ (at_back (var x) (2 * var x) below ∙ (code v_is ∙ cond-true (eqb (x % 2) 0) (2 * v) (2 * v + 1) (eq-eqb (x % 2) 0 e))))
      (λ n. act_odd inverse x n
      ∙ (ap neg (at_back (var x) (2 * var x) below ∙ (code v_is ∙ cond-false (eqb (x % 2) 0) (2 * v) (2 * v + 1) (ne_eqb (x % 2) 0 n))) ∙ (ap neg (sym (neg_double v)) ∙ neg_neg (2 * v))))
      (cases_eq (x % 2) 0)
    where
      x : ℕ
      x = image_of card v

      below : var x < 513
      below = let c : Code 512 (image_of card v) = image_code card v b in omega (arith, c.1)

      x_is : image_of card v ≡ get_or card.images v 0
      x_is = inside card v b

      v_is : source (var x) ≡ v
      v_is =
          let r : (source (var x) < 513) × (over (source (var x)) ≡ var x) = source_right (var x) below in
          over_single (source (var x)) v r.0 (omega (arith, b.1)) (r.1 ∙ ap var x_is)

      code : source (var x) ≡ v → code_back (var x) ≡ cond (eqb (x % 2) 0) (2 * v) (2 * v + 1)
      code e =
          ap (λ u. cond (eqb (get_or card.images u 0 % 2) 0) (2 * u) (2 * u + 1)) e
          ∙ ap (λ y. cond (eqb (y % 2) 0) (2 * v) (2 * v + 1)) (sym x_is)

  back_double : (v : ℕ) → act inverse (act card (2 * v)) ≡ 2 * v
  back_double v =
      ⊎_elim (λ b. ap (act inverse) (act_double card v) ∙ back_from v b)
      (λ n. ap (act inverse) (act_double card v ∙ stays card v n) ∙ (act_double inverse v ∙ stays inverse v n)) (cases_variable 512 v)

  undoes : Undoes inverse card
  undoes l =
      ⊎_elim (λ e. subst (λ k. act inverse (act card k) ≡ k) (sym e) (back_double (var l)))
      (λ e. subst (λ k. act inverse (act card k) ≡ k) (sym e)
      (ap (act inverse) (act_negates card (2 * var l)) ∙ (act_negates inverse (act card (2 * var l)) ∙ ap neg (back_double (var l)))))
      (same_var l (2 * var l) (omega arith))

-- what undoes is undone
pub undone_by : (card back : Card) → Undoes back card → Undoes card back
undone_by card back undo l = act_apart back (act card (act back l)) l (undo (act back l))

pub undone : CardsUndone
undone card = (inverse card, undoes card, undone_by card (inverse card) (undoes card))
