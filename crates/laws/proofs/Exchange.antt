-- How a card acts on literals: negations go to negations, different literals to different ones, levels stay.
use Rattle.std.proofs.Common.{◌≡◌, ℕ, ◌*◌, ◌/◌, ◌%◌, ◌<◌, ◌≤◌, eqb, ◌⊎◌, get_or, sym, ap, ◌∙◌, subst, inl, inr, ⊎_elim, arith}
use Rattle.std.proofs.lemmas.Bool.{cases_eq, cases_lt, eq-eqb, ne_eqb, cond-true, cond-false}
use Rattle.std.proofs.lemmas.List.{get_or_past, get_or_default}
use Rattle.calculus.specs.Literals.{var, neg}
use Rattle.calculus.specs.Meaning.{Meaning, Variable, Code, level_of}
use Rattle.laws.specs.Cards.{Card, image_of, act, Admissible}
use Rattle.laws.proofs.Formedness.{cases_variable}
use Rattle.laws.proofs.Sets.{neg_is, neg_neg, var_neg, neg_apart, same_var}

module _ (card : Card) where
  pub act_even : (l : ℕ) → l % 2 ≡ 0 → act card l ≡ image_of card (var l)
  act_even l e = cond-true (eqb (l % 2) 0) (image_of card (l / 2)) (neg (image_of card (l / 2))) (eq-eqb (l % 2) 0 e)

  pub act_odd : (l : ℕ) → (l % 2 ≡ 0 → ⊥) → act card l ≡ neg (image_of card (var l))
  act_odd l n = cond-false (eqb (l % 2) 0) (image_of card (l / 2)) (neg (image_of card (l / 2))) (ne_eqb (l % 2) 0 n)

  pub act_double : (v : ℕ) → act card (2 * v) ≡ image_of card v
  act_double v = act_even (2 * v) (omega arith) ∙ ap (image_of card) (let e : 2 * v / 2 ≡ v = omega arith in e)

  act_var : (l : ℕ) → var (act card l) ≡ var (image_of card (var l))
  act_var l = ⊎_elim (λ e. ap var (act_even l e)) (λ n. ap var (act_odd l n) ∙ var_neg (image_of card (var l))) (cases_eq (l % 2) 0)

  pub act_negates : (l : ℕ) → act card (neg l) ≡ neg (act card l)
  act_negates l =
      ⊎_elim (λ e. act_odd (neg l) (omega (arith, neg_is l)) ∙ (ap (λ v. neg (image_of card v)) (var_neg l) ∙ ap neg (sym (act_even l e))))
      (λ n. act_even (neg l) (omega (arith, neg_is l)) ∙ (ap (image_of card) (var_neg l) ∙ (sym (neg_neg (image_of card (var l))) ∙ ap neg (sym (act_odd l n)))))
      (cases_eq (l % 2) 0)

  -- where the card ends, and at 0, nothing moves
  pub stays : (v : ℕ) → (Variable 512 v → ⊥) → image_of card v ≡ 2 * v
  stays v n = by (cases_eq v 0) (cases_lt 512 v)
    where
      by : (v ≡ 0) ⊎ (v ≡ 0 → ⊥) → (512 < v) ⊎ (v ≤ 512) → image_of card v ≡ 2 * v
      by (inl e) k = subst (λ x. image_of card x ≡ 2 * x) (sym e) card.none
      by (inr z) (inl k) = get_or_past card.images v (2 * v) (omega (arith, card.long))
      by (inr z) (inr k) = absurd (n (omega arith, k))

  pub inside : (v : ℕ) → Variable 512 v → image_of card v ≡ get_or card.images v 0
  inside v b = get_or_default card.images v (2 * v) 0 (omega (arith, card.long, b.1))

  pub image_code : (v : ℕ) → Variable 512 v → Code 512 (image_of card v)
  image_code v b = subst (Code 512) (sym (inside v b)) (card.codes v b)

  image_single : (v w : ℕ) → var (image_of card v) ≡ var (image_of card w) → v ≡ w
  image_single v w e = by (cases_variable 512 v) (cases_variable 512 w)
    where
      moved : (x y : ℕ) → Variable 512 x → (Variable 512 y → ⊥) → var (image_of card x) ≡ var (image_of card y) → ⊥
      moved x y b n h =
          let c : Code 512 (image_of card x) = image_code x b in
          n (let k : image_of card y ≡ 2 * y = stays y n in (omega (arith, c.0), omega (arith, c.1)))

      by : Variable 512 v ⊎ (Variable 512 v → ⊥) → Variable 512 w ⊎ (Variable 512 w → ⊥) → v ≡ w
      by (inl a) (inl b) = card.apart v w a b (ap var (sym (inside v a)) ∙ (e ∙ ap var (inside w b)))
      by (inl a) (inr b) = absurd (moved v w a b e)
      by (inr a) (inl b) = absurd (moved w v b a (sym e))
      by (inr a) (inr b) = omega (arith, stays v a, stays w b)

  pub act_apart : (l k : ℕ) → act card l ≡ act card k → l ≡ k
  act_apart l k e =
      ⊎_elim (λ h. h) (λ h. absurd (neg_apart (act card k) (sym (act_negates k) ∙ (ap (act card) (sym h) ∙ e))))
      (same_var l k (image_single (var l) (var k) (sym (act_var l) ∙ (ap var e ∙ act_var k))))

module _ (m : Meaning) (card : Card) (fits : Admissible m card) where
  pub level_stays : (v : ℕ) → level_of m (var (image_of card v)) ≡ level_of m v
  level_stays v = by (cases_variable 512 v) (cases_lt m.n v)
    where
      fixed : image_of card v ≡ 2 * v → level_of m (var (image_of card v)) ≡ level_of m v
      fixed e = ap (level_of m) (let h : var (image_of card v) ≡ v = omega arith in h)

      by : Variable 512 v ⊎ (Variable 512 v → ⊥) → (m.n < v) ⊎ (v ≤ m.n) → level_of m (var (image_of card v)) ≡ level_of m v
      by (inl b) (inl h) = fixed (fits.fixes v h b.1)
      by (inl b) (inr h) = fits.levels v (b.0, h)
      by (inr n) h = fixed (stays card v n)

  pub act_levels : (l : ℕ) → level_of m (var (act card l)) ≡ level_of m (var l)
  act_levels l = ap (level_of m) (act_var card l) ∙ level_stays (var l)
