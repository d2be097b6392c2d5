-- A line that is read is its entry as it is written, byte for byte.
use Rattle.std.proofs.Common.{◌≡◌, ℕ, zero, suc, ◌+◌, ◌-◌, ◌*◌, ◌/◌, ◌%◌, ◌<◌, ◌≤◌, List, [], ◌∷◌, ◌++◌, map, length, get_or, take, drop, sym, refl, ap, ◌∙◌, ⊎_elim, arith}
use Rattle.std.specs.List.{range_with_len, flat_map, AllByRecursion}
use Rattle.std.proofs.lemmas.List.FromFn.{length-map-range_with_len}
use Rattle.std.proofs.lemmas.List.{drop_more}
use Rattle.std.proofs.lemmas.Bool.{cases_eq}
use Rattle.cards.specs.Pairs.{Lawful}
use Rattle.dockets.specs.Encoding.{field, pair, encoded, Fits, Writable}
use Rattle.dockets.specs.Reading.{Hold, field_at, pairs_at, pair_checks, naming_check, pairs_checks, naming_checks, card_checks, Kind, axioms, resolutions, reductions, symmetries, unknown, kind_of, field_checks, entry_of, length_of}
use Rattle.dockets.specs.Theorems.{EncodingUndoesDecoding}
use Rattle.dockets.proofs.MapBytes.{Byte, byte_is}
use Rattle.dockets.proofs.Checks.{hold_parts, each_held}

byte_below : (docket : List ℕ) → AllByRecursion (λ b. b < 256) docket → (i : ℕ) → get_or docket i 0 < 256
byte_below [] all i = omega arith
byte_below (b ∷ docket) (here, all) zero = here
byte_below (b ∷ docket) (here, all) (suc i) = byte_below docket all i

-- a card that passes its checks is one
module _ (docket : List ℕ) (place : ℕ) (holds : Hold (card_checks docket place)) where
  abbrev pairs : List (ℕ × ℕ)
  pairs = pairs_at docket place

  count : length pairs ≡ field_at docket place
  count = length-map-range_with_len (λ k. (field_at docket (place + 2 + 4 * k), field_at docket (place + 4 + 4 * k))) 0 (field_at docket place)

  abbrev parts : Hold (pairs_checks docket place 0 (field_at docket place)) × Hold (naming_checks docket place 0 (field_at docket place))
  parts = hold_parts (pairs_checks docket place 0 (field_at docket place)) (naming_checks docket place 0 (field_at docket place)) holds.1.1

  each_pair : (k : ℕ) → k < field_at docket place → Hold (pair_checks docket place k)
  each_pair = each_held (pair_checks docket place) (field_at docket place) parts.0

  pub lawful : Lawful pairs
  lawful = record {
    few = omega (arith, count, holds.1.0);
    fit = λ j h. let c = each_pair j (omega (arith, count)) in (c.1.0, c.1.1.1.0);
    named = λ k h. (each_held (λ j. naming_check docket place j ∷ []) (field_at docket place) parts.1 k (omega (arith, count))).0;
  }

  -- its pairs are there
  pub pairs_there : place + 2 + 4 * field_at docket place ≤ length docket
  pairs_there =
      ⊎_elim (λ e. omega (arith, holds.0)) (λ some. let c = each_pair (field_at docket place - 1) (omega arith) in omega (arith, c.1.1.0)) (cases_eq (field_at docket place) 0)

module _ (docket : List ℕ) (bytes : AllByRecursion (λ b. b < 256) docket) where
  field_fits : (byte : ℕ) → Fits (field_at docket byte)
  field_fits byte = omega (arith, byte_below docket bytes byte, byte_below docket bytes (byte + 1))

  -- the bytes of a field are what is written of it
  field_taken : (n at next : ℕ) → at + 2 ≤ length docket → at + 2 ≡ next → take (suc (suc n)) (drop at docket) ≡ field (field_at docket at) ++ take n (drop next docket)
  field_taken n at next h e =
      let b : get_or docket (at + 1) 0 < 256 = byte_below docket bytes (at + 1) in
      let high : get_or docket at 0 ≡ field_at docket at / 256 = omega arith in
      let low : get_or docket (at + 1) 0 ≡ field_at docket at % 256 = omega arith in
      let on : at + 1 + 1 ≡ next = omega arith in
      ap (take (suc (suc n))) (drop_more docket at 0 (omega arith) ∙ ap (λ l. get_or docket at 0 ∷ l) (drop_more docket (at + 1) 0 (omega arith)))
      ∙ (λ i. high i ∷ low i ∷ take n (drop (on i) docket))

  pairs_taken : (place k n : ℕ) → place + 2 + 4 * k + 4 * n ≤ length docket
      → take (4 * n) (drop (place + 2 + 4 * k) docket) ≡ flat_map pair (map (λ j. (field_at docket (place + 2 + 4 * j), field_at docket (place + 4 + 4 * j))) (range_with_len k n))
  pairs_taken place k zero h = refl
  pairs_taken place k (suc n) h =
      let on : 4 * suc n ≡ suc (suc (suc (suc (4 * n)))) = omega arith in
      ap (λ m. take m (drop (place + 2 + 4 * k) docket)) on
      ∙ (field_taken (suc (suc (4 * n))) (place + 2 + 4 * k) (place + 4 + 4 * k) (omega arith) (omega arith)
      ∙ ap (λ l. field (field_at docket (place + 2 + 4 * k)) ++ l)
      (field_taken (4 * n) (place + 4 + 4 * k) (place + 2 + 4 * (k + 1)) (omega arith) (omega arith)
      ∙ ap (λ l. field (field_at docket (place + 4 + 4 * k)) ++ l) (pairs_taken place (k + 1) n (omega arith))))

  map_taken : (n at b : ℕ) → at < length docket → get_or docket at 0 ≡ b → take (suc n) (drop at docket) ≡ b ∷ take n (drop (at + 1) docket)
  map_taken n at b h e = ap (take (suc n)) (drop_more docket at 0 h) ∙ ap (λ x. x ∷ take n (drop (at + 1) docket)) e

  written : (at : ℕ) → at < length docket → (kind : Kind) → Byte kind (get_or docket at 0) → (kind ≡ unknown → ⊥) → Hold (field_checks docket at kind)
      → Writable (entry_of docket at kind) × (take (length_of docket at kind) (drop at docket) ≡ encoded (entry_of docket at kind))
  unfolding encoded
  written at h axioms byte known holds =
      (field_fits (at + 1), map_taken 2 at 1 h byte ∙ ap (λ l. 1 ∷ l) (field_taken 0 (at + 1) (at + 3) holds.0 (omega arith)))
  written at h resolutions byte known holds = (
    (field_fits (at + 1), field_fits (at + 3), field_fits (at + 5)),
    map_taken 6 at 14 h byte
        ∙ ap (λ l. 14 ∷ l) (field_taken 4 (at + 1) (at + 3) holds.0 (omega arith)
        ∙ ap (λ l. field (field_at docket (at + 1)) ++ l) (field_taken 2 (at + 3) (at + 5) holds.1.0 (omega arith)
        ∙ ap (λ l. field (field_at docket (at + 3)) ++ l) (field_taken 0 (at + 5) (at + 7) holds.1.1.0 (omega arith)))),
  )
  written at h reductions byte known holds = (
    (field_fits (at + 1), field_fits (at + 3)),
    map_taken 4 at 10 h byte
        ∙ ap (λ l. 10 ∷ l) (field_taken 2 (at + 1) (at + 3) holds.0 (omega arith)
        ∙ ap (λ l. field (field_at docket (at + 1)) ++ l) (field_taken 0 (at + 3) (at + 5) holds.1.0 (omega arith))),
  )
  written at h symmetries byte known holds =
      let n : ℕ = field_at docket (at + 3) in
      let on : 5 + 4 * n ≡ suc (suc (suc (suc (suc (4 * n))))) = omega arith in
      let there : at + 3 + 2 + 4 * n ≤ length docket = pairs_there docket (at + 3) holds.1 in (
        (field_fits (at + 1), lawful docket (at + 3) holds.1),
        ap (λ m. take m (drop at docket)) on
            ∙ (map_taken (suc (suc (suc (suc (4 * n))))) at 18 h byte
            ∙ ap (λ l. 18 ∷ l) (field_taken (suc (suc (4 * n))) (at + 1) (at + 3) holds.0 (omega arith)
            ∙ ap (λ l. field (field_at docket (at + 1)) ++ l) (field_taken (4 * n) (at + 3) (at + 3 + 2 + 4 * 0) holds.1.0 (omega arith)
            ∙ (ap (λ l. field n ++ l) (pairs_taken (at + 3) 0 n (omega arith))
            ∙ ap (λ c. field c ++ flat_map pair (pairs_at docket (at + 3))) (sym (count docket (at + 3) holds.1)))))),
      )
  written at h unknown byte known holds = absurd (known refl)

pub encoding : EncodingUndoesDecoding
encoding docket bytes at (h, (known, holds)) =
    let w = written docket bytes at h (kind_of (get_or docket at 0)) (byte_is (get_or docket at 0)) known holds in
    record { writable = w.0; bytes = w.1 }
