-- What is known once some pairs are read, and what follows of the card or of the fault.
use Rattle.std.proofs.Common.{◌≡◌, ℕ, ◌+◌, ◌*◌, ◌<◌, ◌≤◌, Bool, true, false, ◌⊎◌, List, length, get_or, set, sym, refl, ap, ◌∙◌, subst, inl, inr, ⊎_elim, arith, length-set, get_or-set_other, get_or-set_same, below_more}
use Rattle.std.proofs.lemmas.Bool.{both_ways, cases_eq, cases_order}
use Rattle.calculus.specs.Literals.{var}
use Rattle.calculus.specs.Meaning.{Variable, Code}
use Rattle.laws.specs.Cards.{Card}
use Rattle.laws.proofs.Exchange.{inside, stays}
use Rattle.laws.proofs.Formedness.{cases_variable}
use Rattle.cards.specs.Images.{Permutes}
use Rattle.cards.specs.Judged.{Rises, Fresh, Judged, AllMarked, FirstUnmarked}
use Rattle.cards.specs.Pairs.{variable_at, image_at, Named, VariableFits, ImageFits, FitBefore, Makes, FirstFault}
use Rattle.cards.specs.declared.fault.CardFault.{CardFault}
use Rattle.cards.specs.declared.fault.CardFault.TheVariants.{Many, Variable as InVariable, Image as InImage, Unnamed}
use Rattle.cards.proofs.Marks.{still_marked, some_or_none}

-- the first n pairs are read: they fit, the last variable is theirs, and the arrays hold what they say
pub record Read (pairs : List (ℕ × ℕ)) (n last : ℕ) (images : List ℕ) (named seen : List Bool) : Type 0 where
  pub few : length pairs ≤ 512
  pub images_long : length images ≡ 513
  pub named_long : length named ≡ 513
  pub seen_long : length seen ≡ 513
  pub fit : FitBefore pairs n
  pub at_most : (j : ℕ) → j < n → variable_at pairs j ≤ last
  pub reached : 1 ≤ last → (j : ℕ) × (j < n) × (variable_at pairs j ≡ last)
  pub moves : (j : ℕ) → j < n → get_or images (variable_at pairs j) 0 ≡ image_at pairs j
  pub keeps : (v : ℕ) → v < 513 → ((j : ℕ) → j < n → variable_at pairs j ≡ v → ⊥) → get_or images v 0 ≡ 2 * v
  pub named_yes : (j : ℕ) → j < n → get_or named (variable_at pairs j) false ≡ true
  pub named_no : (v : ℕ) → ((j : ℕ) → j < n → variable_at pairs j ≡ v → ⊥) → get_or named v false ≡ false
  pub seen_yes : (j : ℕ) → j < n → get_or seen (var (image_at pairs j)) false ≡ true
  pub seen_no : (w : ℕ) → ((j : ℕ) → j < n → var (image_at pairs j) ≡ w → ⊥) → get_or seen w false ≡ false

pub cases_named : (pairs : List (ℕ × ℕ)) (v : ℕ) → Named pairs v ⊎ (Named pairs v → ⊥)
cases_named pairs v = some_or_none (λ k. variable_at pairs k ≡ v) (λ k. cases_eq (variable_at pairs k) v) (length pairs)

module _ (pairs : List (ℕ × ℕ)) (n last : ℕ) (images : List ℕ) (named seen : List Bool) (read : Read pairs n last images named seen) where
  abbrev v : ℕ
  v = variable_at pairs n

  abbrev x : ℕ
  x = image_at pairs n

  -- a variable rises exactly where it fits
  variable_fits : Rises last v → VariableFits pairs n
  variable_fits (up, in_range) = ((omega arith, in_range), λ j h. omega (arith, read.at_most j h))

  rises : VariableFits pairs n → Rises last v
  rises (b, above) =
      (⊎_elim (λ e. omega (arith, b.0)) (λ e. let (j, h, i) = read.reached (omega arith) in omega (arith, above j h)) (cases_eq last 0), b.1)

  -- an image is fresh exactly where it fits
  image_fits : Fresh seen x → ImageFits pairs n
  image_fits (code, new) = (code, λ j h e. both_ways (get_or seen (var x) false) new (ap (λ w. get_or seen w false) (sym e) ∙ read.seen_yes j h))

  fresh : ImageFits pairs n → Fresh seen x
  fresh (code, apart) = (code, read.seen_no (var x) apart)

  -- one more pair
  pub step : Rises last v → Fresh seen x → Read pairs (n + 1) v (set images v x) (set named v true) (set seen (var x) true)
  step up new =
      let in_images : v < length images = omega (arith, read.images_long, up.1) in
      let in_named : v < length named = omega (arith, read.named_long, up.1) in
      let in_seen : var x < length seen = omega (arith, read.seen_long, new.0.1) in
      record {
        few = read.few;
        images_long = simp length-set read.images_long;
        named_long = simp length-set read.named_long;
        seen_long = simp length-set read.seen_long;
        fit = below_more _ _ read.fit (variable_fits up, image_fits new);
        at_most = below_more _ _ (λ j h. omega (arith, read.at_most j h, up.0)) (omega arith);
        reached = λ h. (n, omega arith, refl);
        moves =
            below_more _ _ (λ j h. get_or-set_other images v (variable_at pairs j) x 0 (λ e. omega (arith, read.at_most j h, up.0)) ∙ read.moves j h)
            (get_or-set_same images v x 0 in_images);
        keeps = λ u h none. get_or-set_other images v u x 0 (λ e. none n (omega arith) (sym e)) ∙ read.keeps u h (λ j l. none j (omega arith));
        named_yes =
            below_more _ _ (λ j h. still_marked named v (variable_at pairs j) in_named (read.named_yes j h)) (get_or-set_same named v true false in_named);
        named_no = λ u none. get_or-set_other named v u true false (λ e. none n (omega arith) (sym e)) ∙ read.named_no u (λ j l. none j (omega arith));
        seen_yes =
            below_more _ _ (λ j h. still_marked seen (var x) (var (image_at pairs j)) in_seen (read.seen_yes j h))
            (get_or-set_same seen (var x) true false in_seen);
        seen_no = λ w none. get_or-set_other seen (var x) w true false (λ e. none n (omega arith) (sym e)) ∙ read.seen_no w (λ j l. none j (omega arith));
      }

  pub step_to : (place : ℕ) (named_next seen_next : List Bool) → place ≡ v → named_next ≡ set named v true → seen_next ≡ set seen (var x) true
      → Rises last v × Fresh seen x → Read pairs (n + 1) v (set images place x) named_next seen_next
  step_to place named_next seen_next p e i (up, new) =
      subst (λ k. Read pairs (n + 1) v (set images k x) named_next seen_next) (sym p)
      (subst (λ m. Read pairs (n + 1) v (set images v x) m seen_next) (sym e)
      (subst (λ m. Read pairs (n + 1) v (set images v x) (set named v true) m) (sym i) (step up new)))

  -- a pair that is refused is the first fault
  pub refused : (e : CardFault) → n < length pairs → Judged n v x last seen e → FirstFault pairs e
  refused Many h not_so = absurd not_so
  refused (InVariable k) h (i, not_so) =
      subst (λ j. FirstFault pairs (InVariable j)) (sym i) (read.few, h, read.fit, λ fits. not_so (rises fits))
  refused (InImage k) h (i, up, not_so) =
      subst (λ j. FirstFault pairs (InImage j)) (sym i) (read.few, h, read.fit, variable_fits up, λ fits. not_so (fresh fits))
  refused (Unnamed k) h not_so = absurd not_so

-- all pairs are read
module _ (pairs : List (ℕ × ℕ)) (n last : ℕ) (images : List ℕ) (named seen : List Bool) (read : Read pairs n last images named seen) (whole : n ≡ length pairs) where
  marked_named : (w : ℕ) → get_or named w false ≡ true → Named pairs w
  marked_named w e =
      ⊎_elim (λ so. so) (λ not_so. absurd (both_ways (get_or named w false) (read.named_no w (λ j h i. not_so (j, omega arith, i))) e)) (cases_named pairs w)

  -- an image over a variable that is not marked is the first fault
  pub unnamed : (k : ℕ) → FirstUnmarked pairs named k → FirstFault pairs (Unnamed k)
  unnamed k (h, below, not_so) = (
    read.few,
    h,
    subst (FitBefore pairs) whole read.fit,
    λ j l. marked_named (var (image_at pairs j)) (below j l),
    λ (j, l, i). both_ways (get_or named (var (image_at pairs k)) false) not_so (ap (λ w. get_or named w false) (sym i) ∙ read.named_yes j (omega arith)),
  )

  -- a variable is named and has its image, or stays
  abbrev Held : ℕ → Type 0
  Held v = ((k : ℕ) × (k < n) × (variable_at pairs k ≡ v) × (get_or images v 0 ≡ image_at pairs k)) ⊎ ((Named pairs v → ⊥) × (get_or images v 0 ≡ 2 * v))

  held : (v : ℕ) → v < 513 → Held v
  held v h =
      ⊎_elim (λ (k, l, i). inl (k, omega arith, i, ap (λ u. get_or images u 0) (sym i) ∙ read.moves k (omega arith)))
      (λ not_so. inr (not_so, read.keeps v h (λ j l i. not_so (j, omega arith, i)))) (cases_named pairs v)

  same_place : (j k : ℕ) → j < n → k < n → var (image_at pairs j) ≡ var (image_at pairs k) → j ≡ k
  same_place j k hj hk e =
      ⊎_elim (λ i. i) (⊎_elim (λ l. absurd ((read.fit k hk).1.1 j l e)) (λ l. absurd ((read.fit j hj).1.1 k l (sym e)))) (cases_order j k)

  module _ (all : AllMarked pairs named (length pairs)) where
    image_named : (k : ℕ) → k < length pairs → Named pairs (var (image_at pairs k))
    image_named k h = marked_named (var (image_at pairs k)) (all k h)

    codes : (v : ℕ) → Variable 512 v → Code 512 (get_or images v 0)
    codes v b =
        ⊎_elim (λ (k, h, i, e). subst (Code 512) (sym e) (read.fit k h).1.0) (λ (not_so, e). (omega (arith, b.0), omega (arith, b.1)))
        (held v (omega (arith, b.1)))

    apart : (v w : ℕ) → Variable 512 v → Variable 512 w → var (get_or images v 0) ≡ var (get_or images w 0) → v ≡ w
    apart v w b c e = by (held v (omega (arith, b.1))) (held w (omega (arith, c.1)))
      where
        by : Held v → Held w → v ≡ w
        by (inl (j, hj, ij, ej)) (inl (k, hk, ik, ek)) =
            sym ij ∙ (ap (variable_at pairs) (same_place j k hj hk (sym (ap var ej) ∙ (e ∙ ap var ek))) ∙ ik)
        by (inl (j, hj, ij, ej)) (inr (not_so, ek)) =
            absurd (not_so (subst (Named pairs) (let g : var (image_at pairs j) ≡ w = omega arith in g) (image_named j (omega arith))))
        by (inr (not_so, ej)) (inl (k, hk, ik, ek)) =
            absurd (not_so (subst (Named pairs) (let g : var (image_at pairs k) ≡ v = omega arith in g) (image_named k (omega arith))))
        by (inr (not_so, ej)) (inr (na, ek)) = omega arith

    pub permuted : Permutes images
    permuted = record {
      long = read.images_long;
      none = read.keeps 0 (omega arith) (λ j h e. omega (arith, (read.fit j h).0.0.0));
      codes = codes;
      apart = apart;
    }

    pub makes : (card : Card) → card.images ≡ images → Makes pairs card
    makes card e = record {
      lawful = record { few = read.few; fit = subst (FitBefore pairs) whole read.fit; named = image_named };
      moves = λ k h. inside card (variable_at pairs k) (read.fit k (omega arith)).0.0 ∙ (ap (λ is. get_or is (variable_at pairs k) 0) e ∙ read.moves k (omega arith));
      keeps = λ v not_so.
          ⊎_elim (λ b. inside card v b ∙ (ap (λ is. get_or is v 0) e ∙ read.keeps v (omega (arith, b.1)) (λ j h i. not_so (j, omega arith, i))))
          (λ out. stays card v out) (cases_variable 512 v);
    }
