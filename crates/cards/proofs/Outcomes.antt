-- Every list of pairs comes to one outcome.
use Rattle.std.proofs.Common.{◌≡◌, ℕ, zero, suc, ◌*◌, ◌<◌, ◌≤◌, Bool, true, false, ◌⊎◌, List, map, length, get_or, replicate, sym, refl, ap, ◌∙◌, subst, inl, inr, ⊎_elim, add-one, arith, ext_get_or}
use lib.ListN.{length-replicate}
use Rattle.std.specs.List.{range_with_len}
use Rattle.std.proofs.lemmas.List.FromFn.{length-map-range_with_len, get_or-map-range_with_len}
use Rattle.std.proofs.lemmas.List.{get_or_default}
use Rattle.std.proofs.lemmas.Bool.{both_ways, cases_Bool, cases_lt, cases_order}
use Rattle.calculus.specs.Literals.{var}
use Rattle.laws.specs.Cards.{Card, image_of}
use Rattle.cards.specs.Images.{Permutes}
use Rattle.cards.specs.Judged.{Rises, Fresh}
use Rattle.cards.specs.Outcomes.{Outcomes}
use Rattle.cards.specs.Pairs.{variable_at, image_at, Named, VariableFits, ImageFits, Lawful, Makes, FirstFault}
use Rattle.cards.specs.declared.fault.CardFault.{CardFault}
use Rattle.cards.specs.declared.fault.CardFault.TheVariants.{Many, Variable as InVariable, Image as InImage, Unnamed}
use Rattle.cards.proofs.Marks.{unmarked, all_or_first}
use Rattle.cards.proofs.Reading.{Read, cases_named, step, refused, unnamed, permuted, makes}

-- the first of which something does not hold is one only
same_first : (P : ℕ → Type 0) (j k : ℕ) → ((i : ℕ) → i < j → P i) → (P j → ⊥) → ((i : ℕ) → i < k → P i) → (P k → ⊥) → j ≡ k
same_first P j k below_j at_j below_k at_k = ⊎_elim (λ e. e) (⊎_elim (λ h. absurd (at_j (below_k j h))) (λ h. absurd (at_k (below_j k h)))) (cases_order j k)

module _ (pairs : List (ℕ × ℕ)) where
  -- pairs that make a card have no fault
  pub faultless : Lawful pairs → (e : CardFault) → FirstFault pairs e → ⊥
  faultless lawful Many f = omega (arith, lawful.few)
  faultless lawful (InVariable k) (few, h, fit, not_so) = not_so (lawful.fit k h).0
  faultless lawful (InImage k) (few, h, fit, fits, not_so) = not_so (lawful.fit k h).1
  faultless lawful (Unnamed k) (few, h, fit, below, not_so) = not_so (lawful.named k h)

  abbrev Fits : ℕ → Type 0
  Fits k = VariableFits pairs k × ImageFits pairs k

  one_fault : (e f : CardFault) → FirstFault pairs e → FirstFault pairs f → e ≡ f
  one_fault Many Many a b = refl
  one_fault Many (InVariable k) a b = absurd (omega (arith, b.0))
  one_fault Many (InImage k) a b = absurd (omega (arith, b.0))
  one_fault Many (Unnamed k) a b = absurd (omega (arith, b.0))
  one_fault (InVariable j) Many a b = absurd (omega (arith, a.0))
  one_fault (InVariable j) (InVariable k) a b = ap InVariable (same_first Fits j k a.2 (λ f. a.3 f.0) b.2 (λ f. b.3 f.0))
  one_fault (InVariable j) (InImage k) a b =
      absurd (a.3 (subst (VariableFits pairs) (sym (same_first Fits j k a.2 (λ f. a.3 f.0) b.2 (λ f. b.4 f.1))) b.3))
  one_fault (InVariable j) (Unnamed k) a b = absurd (a.3 (b.2 j a.1).0)
  one_fault (InImage j) Many a b = absurd (omega (arith, a.0))
  one_fault (InImage j) (InVariable k) a b =
      absurd (b.3 (subst (VariableFits pairs) (same_first Fits j k a.2 (λ f. a.4 f.1) b.2 (λ f. b.3 f.0)) a.3))
  one_fault (InImage j) (InImage k) a b = ap InImage (same_first Fits j k a.2 (λ f. a.4 f.1) b.2 (λ f. b.4 f.1))
  one_fault (InImage j) (Unnamed k) a b = absurd (a.4 (b.2 j a.1).1)
  one_fault (Unnamed j) Many a b = absurd (omega (arith, a.0))
  one_fault (Unnamed j) (InVariable k) a b = absurd (b.3 (a.2 k b.1).0)
  one_fault (Unnamed j) (InImage k) a b = absurd (b.4 (a.2 k b.1).1)
  one_fault (Unnamed j) (Unnamed k) a b =
      ap Unnamed (same_first (λ i. Named pairs (var (image_at pairs i))) j k a.3 a.4 b.3 b.4)

  one_card : (card other : Card) → Makes pairs card → Makes pairs other → card.images ≡ other.images
  one_card card other a b =
      ext_get_or 0 card.images other.images (card.long ∙ sym other.long)
      (λ v h. get_or_default card.images v 0 (2 * v) h ∙ (same v ∙ sym (get_or_default other.images v 0 (2 * v) (omega (arith, card.long, other.long)))))
    where
      same : (v : ℕ) → image_of card v ≡ image_of other v
      same v =
          ⊎_elim (λ (k, h, e). subst (λ u. image_of card u ≡ image_of other u) e (a.moves k h ∙ sym (b.moves k h)))
          (λ not_so. a.keeps v not_so ∙ sym (b.keeps v not_so)) (cases_named pairs v)

  -- the first n pairs are read, or there is a fault
  abbrev Scanned : ℕ → Type 0
  Scanned n =
      ((last : ℕ) × (images : List ℕ) × (named : List Bool) × (seen : List Bool) × Read pairs n last images named seen) ⊎ ((e : CardFault) × FirstFault pairs e)

  start : length pairs ≤ 512 → Scanned 0
  start few = inl (
    0,
    map (λ v. 2 * v) (range_with_len 0 513),
    replicate 513 false,
    replicate 513 false,
    record {
      few = few;
      images_long = length-map-range_with_len (λ v. 2 * v) 0 513;
      named_long = length-replicate 513 false;
      seen_long = length-replicate 513 false;
      fit = λ j h. absurd (omega arith);
      at_most = λ j h. absurd (omega arith);
      reached = λ h. absurd (omega arith);
      moves = λ j h. absurd (omega arith);
      keeps = λ v h none. get_or-map-range_with_len (λ v. 2 * v) 0 513 v v 0 h (omega arith);
      named_yes = λ j h. absurd (omega arith);
      named_no = λ v none. unmarked 513 v;
      seen_yes = λ j h. absurd (omega arith);
      seen_no = λ w none. unmarked 513 w;
    },
  )

  cases_rises : (last v : ℕ) → Rises last v ⊎ (Rises last v → ⊥)
  cases_rises last v =
      ⊎_elim (λ up. ⊎_elim (λ h. inr (λ r. omega (arith, r.1))) (λ h. inl (up, h)) (cases_lt 512 v)) (λ h. inr (λ r. omega (arith, r.0))) (cases_lt last v)

  cases_fresh : (seen : List Bool) (x : ℕ) → Fresh seen x ⊎ (Fresh seen x → ⊥)
  cases_fresh seen x = by (cases_lt 1 x) (cases_lt x 1026) (cases_Bool (get_or seen (var x) false))
    where
      by : (1 < x) ⊎ (x ≤ 1) → (x < 1026) ⊎ (1026 ≤ x) → (get_or seen (var x) false ≡ true) ⊎ (get_or seen (var x) false ≡ false) → Fresh seen x ⊎ (Fresh seen x → ⊥)
      by (inl a) (inl b) (inr e) = inl ((omega arith, omega arith), e)
      by (inl a) (inl b) (inl e) = inr (λ f. both_ways (get_or seen (var x) false) f.1 e)
      by (inl a) (inr b) e = inr (λ f. omega (arith, f.0.1))
      by (inr a) b e = inr (λ f. omega (arith, f.0.0))

  scanned : length pairs ≤ 512 → (n : ℕ) → n ≤ length pairs → Scanned n
  scanned few zero h = start few
  scanned few (suc n) h = by (scanned few n (omega arith))
    where
      by : Scanned n → Scanned (suc n)
      by (inr f) = inr f
      by (inl (last, images, named, seen, read)) =
          ⊎_elim
          (λ up.
          ⊎_elim (λ new. inl (_, _, _, _, rw add-one at (step pairs n last images named seen read up new)))
          (λ not_so. inr (InImage n, refused pairs n last images named seen read (InImage n) (omega arith) (refl, up, not_so)))
          (cases_fresh seen (image_at pairs n)))
          (λ not_so. inr (InVariable n, refused pairs n last images named seen read (InVariable n) (omega arith) (refl, not_so)))
          (cases_rises last (variable_at pairs n))

  abbrev SomeOutcome : Type 0
  SomeOutcome = ((card : Card) × Makes pairs card) ⊎ ((e : CardFault) × FirstFault pairs e)

  ended : Scanned (length pairs) → SomeOutcome
  ended (inr f) = inr f
  ended (inl (last, images, named, seen, read)) =
      ⊎_elim
      (λ all.
      let p : Permutes images = permuted pairs (length pairs) last images named seen read refl all in
      let card : Card = record { images = images; long = p.long; none = p.none; codes = p.codes; apart = p.apart } in
      inl (card, makes pairs (length pairs) last images named seen read refl all card refl))
      (λ (k, h, below, not_so). inr (
        Unnamed k,
        unnamed pairs (length pairs) last images named seen read refl k
            (h, below, ⊎_elim (λ e. absurd (not_so e)) (λ e. e) (cases_Bool (get_or named (var (image_at pairs k)) false))),
      ))
      (all_or_first (λ k. get_or named (var (image_at pairs k)) false ≡ true)
      (λ k. ⊎_elim (λ e. inl e) (λ e. inr (λ i. both_ways (get_or named (var (image_at pairs k)) false) e i)) (cases_Bool (get_or named (var (image_at pairs k)) false)))
      (length pairs))

  some : SomeOutcome
  some = ⊎_elim (λ h. inr (Many, h)) (λ few. ended (scanned few (length pairs) (omega arith))) (cases_lt 512 (length pairs))

pub outcomes : Outcomes
outcomes pairs = record { some = some pairs; never_both = λ card e made. faultless pairs made.lawful e; one_fault = one_fault pairs; one_card = one_card pairs }
