-- The card behind a count, of which some fields are whole: all of them, or the first that is not.
use Rattle.std.proofs.Common.{◌≡◌, ℕ, ◌+◌, ◌*◌, ◌/◌, ◌%◌, ◌<◌, ◌≤◌, ◌⊎◌, List, [], ◌∷◌, map, length, take, Err, Result, sym, refl, ap, ◌∙◌, subst, inl, inr, ⊎_elim, arith, MatchResult}
use Rattle.std.specs.List.{range_with_len}
use Rattle.std.proofs.lemmas.List.FromFn.{length-map-range_with_len}
use Rattle.std.proofs.lemmas.Bool.{cases_eq}
use Rattle.laws.specs.Cards.{Card as Exchange}
use Rattle.cards.specs.Meant.{meant}
use Rattle.cards.specs.Pairs.{VariableFits, FitBefore, Makes, FirstFault}
use Rattle.cards.specs.declared.card.Card.{Card}
use Rattle.cards.specs.declared.fault.CardFault.{CardFault}
use Rattle.cards.specs.declared.fault.CardFault.TheVariants.{Many, Variable as InVariable, Image as InImage, Unnamed}
use Rattle.dockets.specs.Fields.{pair_from, pairs_from, whole_fields, CutOff}
use Rattle.dockets.specs.Placing.{asked, byte_of, IsFault}
use Rattle.dockets.specs.Reading.{field_at, Whole, Hold, FailsAt, count_checks, pairs_at, pair_checks, naming_check, pairs_checks, naming_checks, card_checks}
use Rattle.dockets.specs.declared.fault.LineRule.TheVariants.{Short, Card as InCard}
use Rattle.dockets.specs.declared.fault.LineFault.{LineFault}
use Rattle.dockets.proofs.Checks.{each_holds, one_fails, fails_first, fails_then, hold_append}

-- pair k behind the count at a place
abbrev pair_at : List ℕ → ℕ → ℕ → ℕ × ℕ
pair_at docket place k = (field_at docket (place + 2 + 4 * k), field_at docket (place + 4 + 4 * k))

map_same : {X : Type 0} (f g : ℕ → X) → ((k : ℕ) → f k ≡ g k) → (ks : List ℕ) → map f ks ≡ map g ks
map_same f g same [] = refl
map_same f g same (k ∷ ks) = rw (same k, map_same f g same ks)

-- the count at a place is read, and the cursor is behind it
pub record Counted (docket : List ℕ) (place count : ℕ) (of : List ℕ) (at : ℕ) : Type 0 where
  pub same : of ≡ docket
  pub onto : at ≡ place + 2
  pub there : Whole docket place
  pub few : count ≤ 512
  pub value : count ≡ field_at docket place

pub counted : (docket : List ℕ) (place count : ℕ) (first of : List ℕ) (from at : ℕ) → first ≡ docket → from ≡ place → of ≡ first → at ≡ from + 2 → Hold (count_checks first from)
    → count ≡ field_at first from → Counted docket place count of at
counted docket place count first of from at e i j k h v =
    let held : Hold (count_checks docket place) = subst (λ b. Hold (count_checks docket b)) i (subst (λ d. Hold (count_checks d from)) e h) in
    let value : count ≡ field_at docket place = v ∙ (λ t. field_at (e t) (i t)) in
    record { same = j ∙ e; onto = omega arith; there = held.0; few = omega (arith, held.1.0); value = value }

module _ (docket : List ℕ) (place count : ℕ) (of : List ℕ) (at : ℕ) (c : Counted docket place count of at) where
  abbrev n : ℕ
  n = field_at docket place

  abbrev pairs : List (ℕ × ℕ)
  pairs = pairs_at docket place

  -- how many fields behind the count are whole
  abbrev whole : ℕ
  whole = whole_fields docket (place + 2)

  pub whole_is : whole_fields of at ≡ whole
  whole_is = λ t. whole_fields (c.same t) (c.onto t)

  pairs_long : length pairs ≡ n
  pairs_long = length-map-range_with_len _ 0 n

  pairs_same : pairs_from of at count ≡ pairs
  pairs_same =
      (λ t. pairs_from (c.same t) (c.onto t) (c.value t)) ∙
      (map_same (pair_from docket (place + 2)) (pair_at docket place)
      (λ k. let on : place + 2 + (4 * k + 2) ≡ place + 4 + 4 * k = omega arith in λ t. (field_at docket (place + 2 + 4 * k), field_at docket (on t))) (range_with_len 0 n))

  -- the checks of the card fail at those of the pairs, or at those of the names
  in_pairs : (e : LineFault) → FailsAt e (pairs_checks docket place 0 n) → FailsAt e (card_checks docket place)
  in_pairs e f = inr (c.there, inr (omega (arith, c.few, c.value), fails_first e _ (naming_checks docket place 0 n) f))

  in_names : (e : LineFault) → Hold (pairs_checks docket place 0 n) → FailsAt e (naming_checks docket place 0 n) → FailsAt e (card_checks docket place)
  in_names e h f =
      inr (c.there, inr (omega (arith, c.few, c.value), fails_then e (pairs_checks docket place 0 n) _ h f))

  -- the pairs before pair k are whole and fit
  hold_before : (k : ℕ) → 2 * k ≤ whole → FitBefore pairs k → (j : ℕ) → j < k → Hold (pair_checks docket place j)
  hold_before k h fit j l = (omega (arith, c.there), ((fit j l).0, (omega (arith, c.there), ((fit j l).1, tt))))

  hold_pairs : 2 * count ≤ whole → FitBefore pairs (length pairs) → Hold (pairs_checks docket place 0 n)
  hold_pairs h fit =
      each_holds (pair_checks docket place) n (hold_before n (omega (arith, c.value)) (λ j l. fit j (omega (arith, pairs_long))))

  -- the first fault is one of pair k
  in_pair : (e : LineFault) (k : ℕ) → k < n → 2 * k ≤ whole → FitBefore pairs k → FailsAt e (pair_checks docket place k) → FailsAt e (card_checks docket place)
  in_pair e k h l fit f = in_pairs e (one_fails (pair_checks docket place) e k (hold_before k l fit) f n h)

  -- a field that is cut off is the first fault if those before it fit
  cut : (e : LineFault) → IsFault Short (place + 2 + 2 * whole) e → whole < 2 * n → FitBefore pairs (whole / 2)
      → (whole % 2 ≡ 1 → VariableFits pairs (whole / 2)) → FailsAt e (card_checks docket place)
  cut e (rule, byte) h fit fits =
      in_pair e (whole / 2) (omega arith) (omega arith) fit
      (⊎_elim (λ odd. inr (omega (arith, c.there), inr (fits odd, inl (rule, omega arith, λ w. omega (arith, c.there)))))
      (λ even. inl (rule, omega arith, λ w. omega (arith, c.there))) (cases_eq (whole % 2) 1))

  cut_in_all : (e : LineFault) → IsFault Short (place + 2 + 2 * whole) e → whole < 2 * count → FitBefore pairs (length pairs) → FailsAt e (card_checks docket place)
  cut_in_all e is h fit =
      cut e is (omega (arith, c.value)) (λ j l. fit j (omega (arith, pairs_long, c.value))) (λ odd. (fit (whole / 2) (omega (arith, pairs_long, c.value))).0)

  -- a fault of the pairs, where the field asked for is cut off or is there
  abbrev Placed : CardFault → LineFault → Type 0
  Placed fault e = ((whole < asked count fault) × IsFault Short (place + 2 + 2 * whole) e) ⊎ ((asked count fault ≤ whole) × IsFault InCard (byte_of place fault) e)

  faults : (fault : CardFault) (e : LineFault) → FirstFault pairs fault → Placed fault e → FailsAt e (card_checks docket place)
  faults Many e f p = absurd (omega (arith, f, pairs_long, c.value))
  faults (InVariable k) e (_, l, fit, not_so) (inl (h, is)) =
      cut e is (omega (arith, pairs_long)) (λ j m. fit j (omega arith)) (λ odd. (fit (whole / 2) (omega arith)).0)
  faults (InVariable k) e (_, l, fit, not_so) (inr (h, (rule, byte))) =
      in_pair e k (omega (arith, pairs_long)) (omega arith) fit (inr (omega (arith, c.there), inl (rule, byte, not_so)))
  faults (InImage k) e (_, l, fit, fits, not_so) (inl (h, is)) =
      cut e is (omega (arith, pairs_long)) (λ j m. fit j (omega arith))
      (λ odd. ⊎_elim (λ i. subst (VariableFits pairs) (sym i) fits) (λ ne. (fit (whole / 2) (omega arith)).0) (cases_eq (whole / 2) k))
  faults (InImage k) e (_, l, fit, fits, not_so) (inr (h, (rule, byte))) =
      in_pair e k (omega (arith, pairs_long)) (omega arith) fit
      (inr (omega (arith, c.there), inr (fits, inr (omega (arith, c.there), inl (rule, byte, not_so)))))
  faults (Unnamed k) e (_, l, fit, below, not_so) (inl (h, is)) = cut_in_all e is h fit
  faults (Unnamed k) e (_, l, fit, below, not_so) (inr (h, (rule, byte))) =
      in_names e (hold_pairs h fit)
      (one_fails (λ j. naming_check docket place j ∷ []) e k (λ j m. (below j m, tt)) (inl (rule, byte, not_so)) n (omega (arith, pairs_long)))

  -- of the pairs that were read, which are those of the docket
  module _ (read : List (ℕ × ℕ)) (read_is : take count read ≡ pairs_from of at count) where
    read_same : take count read ≡ pairs
    read_same = read_is ∙ pairs_same

    first : (fault : CardFault) → FirstFault (take count read) fault → FirstFault pairs fault
    first fault = subst (λ ps. FirstFault ps fault) read_same

    makes : (card : Exchange) → Makes (take count read) card → Makes pairs card
    makes card = subst (λ ps. Makes ps card) read_same

    -- the field that is cut off, where so many are asked for
    cut_is : (fields : ℕ) (e : LineFault) → CutOff of at fields e → (whole < fields) × IsFault Short (place + 2 + 2 * whole) e
    cut_is fields e (h, (rule, byte)) = (omega (arith, whole_is), (rule, omega (arith, whole_is, c.onto)))

    pub refused_cut : (fault : CardFault) (fields : ℕ) (e : LineFault) → FirstFault (take count read) fault → fields ≡ asked count fault → CutOff of at fields e
        → FailsAt e (card_checks docket place)
    refused_cut fault fields e f is h =
        let (l, cut) = cut_is fields e h in
        faults fault e (first fault f) (inl (omega (arith, l, is), cut))

    pub refused : (fault : CardFault) (fields byte : ℕ) (e : LineFault) → FirstFault (take count read) fault → fields ≡ asked count fault → byte ≡ byte_of place fault
        → fields ≤ whole_fields of at → e ≡ record { rule = InCard; byte = byte } → FailsAt e (card_checks docket place)
    refused fault fields byte e f is here h found =
        faults fault e (first fault f) (inr (omega (arith, h, is, whole_is), (ap (λ x. x.rule) found, ap (λ x. x.byte) found ∙ here)))

    pub cut_short : (card : Exchange) (e : LineFault) → Makes (take count read) card → CutOff of at (2 * count) e → FailsAt e (card_checks docket place)
    cut_short card e m h = let (l, cut) = cut_is (2 * count) e h in cut_in_all e cut l (makes card m).lawful.fit

    pub made : (card : Exchange) → Makes (take count read) card → 2 * count ≤ whole_fields of at → Hold (card_checks docket place) × Makes pairs card
    made card m h =
        let all : 2 * count ≤ whole = omega (arith, h, whole_is) in (
          (
            c.there,
            (
              omega (arith, c.few, c.value),
              hold_append (pairs_checks docket place 0 n) (naming_checks docket place 0 n) (hold_pairs all (makes card m).lawful.fit)
                  (each_holds (λ j. naming_check docket place j ∷ []) n (λ j l. ((makes card m).lawful.named j (omega (arith, pairs_long)), tt))),
            ),
          ),
          makes card m,
        )

-- what is answered of the card at a place, where it is a fault
abbrev CardRead : List ℕ → ℕ → Result Card LineFault → Type 0
CardRead docket place r = MatchResult r (λ card. Hold (card_checks docket place) × Makes (pairs_at docket place) (meant card)) (λ e. FailsAt e (card_checks docket place))

pub card_refused : (docket : List ℕ) (place : ℕ) (r : Result Card LineFault) (e f : LineFault) → r ≡ Err f → f ≡ e → FailsAt e (card_checks docket place) → CardRead docket place r
card_refused docket place r e f i j fails = subst (CardRead docket place) (sym (i ∙ ap Err j)) fails
