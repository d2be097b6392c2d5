-- What is written of an entry is read as that entry, wherever it stands.
use Rattle.std.proofs.Common.{◌≡◌, ℕ, suc, ◌+◌, ◌-◌, ◌*◌, ◌<◌, ◌≤◌, List, [], ◌∷◌, ◌++◌, length, get_or, drop, sym, refl, ap, ◌∙◌, subst, arith, length-append, length-drop, get_or-drop, drop-drop}
use lib.Seq.{drop-append_seam}
use Rattle.std.specs.List.{flat_map}
use Rattle.calculus.specs.Literals.{var}
use Rattle.cards.specs.Pairs.{Lawful, Named, VariableFits, ImageFits, image_at}
use Rattle.dockets.specs.Encoding.{Entry, axiom_entry, resolution_entry, reduction_entry, symmetry_entry, field, pair, encoded, Writable}
use Rattle.dockets.specs.Reading.{Hold, field_at, pairs_at, pair_checks, naming_check, pairs_checks, naming_checks, card_checks, Kind, axioms, resolutions, reductions, symmetries, unknown, kind_of, field_checks, line_checks, entry_of, entry_at, length_of, length_at}
use Rattle.dockets.specs.Theorems.{DecodingUndoesEncoding}
use Rattle.dockets.proofs.MapBytes.{known}
use Rattle.dockets.proofs.Checks.{hold_append, each_holds}
use Rattle.dockets.proofs.FieldBytes.{field_from, length_pairs, count_read, pairs_read}

-- the entry is read at this offset
pub record Reads (docket : List ℕ) (at : ℕ) (entry : Entry) : Type 0 where
  pub holds : Hold (line_checks docket at)
  pub entry_is : entry_at docket at ≡ entry
  pub length_is : length_at docket at ≡ length (encoded entry)

by_kind : (docket : List ℕ) (at : ℕ) (entry : Entry) (kind : Kind) → kind_of (get_or docket at 0) ≡ kind → at < length docket → (kind ≡ unknown → ⊥)
    → Hold (field_checks docket at kind) → entry_of docket at kind ≡ entry → length_of docket at kind ≡ length (encoded entry) → Reads docket at entry
by_kind docket at entry kind e h known holds is long = record {
  holds = (h, (λ i. known (sym e ∙ i), subst (λ k. Hold (field_checks docket at k)) (sym e) holds));
  entry_is = ap (entry_of docket at) e ∙ is;
  length_is = ap (length_of docket at) e ∙ long;
}

-- pairs that make a card pass the checks of one
module _ (behind : List ℕ) (docket : List ℕ) (place : ℕ) (pairs : List (ℕ × ℕ)) (e : drop place docket ≡ field (length pairs) ++ (flat_map pair pairs ++ behind)) (lawful : Lawful pairs) where
  long : place + (2 + 4 * length pairs) ≤ length docket
  long =
      let whole : length docket - place ≡ suc (suc (length (flat_map pair pairs ++ behind))) = sym (length-drop place docket) ∙ ap length e in
      omega (arith, length-append (flat_map pair pairs) behind, length_pairs pairs)

  abbrev read : pairs_at docket place ≡ pairs
  read = pairs_read behind docket place pairs e

  count : field_at docket place ≡ length pairs
  count = count_read behind docket place pairs e

  each_pair : (k : ℕ) → k < length pairs → Hold (pair_checks docket place k)
  each_pair k h = (
    omega (arith, long),
    (
      subst (λ ps. VariableFits ps k) (sym read) (lawful.fit k h).0,
      (omega (arith, long), (subst (λ ps. ImageFits ps k) (sym read) (lawful.fit k h).1, tt)),
    ),
  )

  card_holds : Hold (card_checks docket place)
  card_holds = (
    omega (arith, long),
    (
      omega (arith, count, lawful.few),
      hold_append (pairs_checks docket place 0 (field_at docket place)) (naming_checks docket place 0 (field_at docket place))
          (each_holds (pair_checks docket place) (field_at docket place) (λ j h. each_pair j (omega (arith, count))))
          (each_holds (λ j. naming_check docket place j ∷ []) (field_at docket place)
          (λ j h. (subst (λ ps. Named ps (var (image_at ps j))) (sym read) (lawful.named j (omega (arith, count))), tt))),
    ),
  )

module _ (docket : List ℕ) (at : ℕ) where
  map_byte : (rest : List ℕ) → drop at docket ≡ rest → get_or docket at 0 ≡ get_or rest 0 0
  map_byte rest e = let on : at ≡ at + 0 = omega arith in ap (λ b. get_or docket b 0) on ∙ (sym (get_or-drop at docket 0 0) ∙ ap (λ l. get_or l 0 0) e)

  room : (rest : List ℕ) → drop at docket ≡ rest → length docket - at ≡ length rest
  room rest e = sym (length-drop at docket) ∙ ap length e

  pub reads : (entry : Entry) (behind : List ℕ) → drop at docket ≡ encoded entry ++ behind → Writable entry → Reads docket at entry
  unfolding encoded
  reads (axiom_entry j) behind e w =
      let rest : List ℕ = encoded (axiom_entry j) ++ behind in
      let r : length docket - at ≡ length rest = room rest e in
      let first : field_at docket (at + 1) ≡ j = field_from docket at rest e 1 (at + 1) refl ∙ omega arith in
      by_kind docket at (axiom_entry j) axioms (ap kind_of (map_byte rest e)) (omega arith) (known axioms tt) (omega arith, tt) (ap axiom_entry first) refl
  reads (resolution_entry p q v) behind e w =
      let rest : List ℕ = encoded (resolution_entry p q v) ++ behind in
      let r : length docket - at ≡ length rest = room rest e in
      let first : field_at docket (at + 1) ≡ p = field_from docket at rest e 1 (at + 1) refl ∙ omega arith in
      let second : field_at docket (at + 3) ≡ q = field_from docket at rest e 3 (at + 3) refl ∙ omega arith in
      let third : field_at docket (at + 5) ≡ v = field_from docket at rest e 5 (at + 5) refl ∙ omega arith in
      by_kind docket at (resolution_entry p q v) resolutions (ap kind_of (map_byte rest e)) (omega arith) (known resolutions tt)
      (omega arith, (omega arith, (omega arith, tt))) (λ i. resolution_entry (first i) (second i) (third i)) refl
  reads (reduction_entry p v) behind e w =
      let rest : List ℕ = encoded (reduction_entry p v) ++ behind in
      let r : length docket - at ≡ length rest = room rest e in
      let first : field_at docket (at + 1) ≡ p = field_from docket at rest e 1 (at + 1) refl ∙ omega arith in
      let second : field_at docket (at + 3) ≡ v = field_from docket at rest e 3 (at + 3) refl ∙ omega arith in
      by_kind docket at (reduction_entry p v) reductions (ap kind_of (map_byte rest e)) (omega arith) (known reductions tt)
      (omega arith, (omega arith, tt)) (λ i. reduction_entry (first i) (second i)) refl
  reads (symmetry_entry p pairs) behind e (fits, lawful) =
      let rest : List ℕ = encoded (symmetry_entry p pairs) ++ behind in
      let r : length docket - at ≡ length rest = room rest e in
      let first : field_at docket (at + 1) ≡ p = field_from docket at rest e 1 (at + 1) refl ∙ omega arith in
      let card : drop (at + 3) docket ≡ field (length pairs) ++ (flat_map pair pairs ++ behind) = sym (drop-drop 3 at docket) ∙ ap (drop 3) e in
      by_kind docket at (symmetry_entry p pairs) symmetries (ap kind_of (map_byte rest e)) (omega arith) (known symmetries tt)
      (omega arith, card_holds behind docket (at + 3) pairs card lawful)
      (λ i. symmetry_entry (first i) (pairs_read behind docket (at + 3) pairs card i))
      (omega (arith, count_read behind docket (at + 3) pairs card, length_pairs pairs))

pub decoding : DecodingUndoesEncoding
decoding before entry behind w =
    let r : Reads (before ++ (encoded entry ++ behind)) (length before) entry =
    reads (before ++ (encoded entry ++ behind)) (length before) entry behind (drop-append_seam before (encoded entry ++ behind)) w in
    record { holds = r.holds; entry_is = r.entry_is; length_is = r.length_is }
