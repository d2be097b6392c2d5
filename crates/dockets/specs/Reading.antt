-- The line at an offset of a docket, and its first fault: what is asked of the bytes, in the order in which it is asked.
use Rattle.std.specs.Prelude.{◌≡◌, ℕ, zero, suc, ◌+◌, ◌*◌, ◌<◌, ◌≤◌, cond, ◌⊎◌, List, [], ◌∷◌, ◌++◌, map, length, ◌==◌, slice_index}
use Rattle.std.specs.List.{range_with_len}
use Rattle.calculus.specs.Literals.{var}
use Rattle.cards.specs.Pairs.{Named, VariableFits, ImageFits, image_at}
use Rattle.dockets.specs.Encoding.{Entry, axiom_entry, resolution_entry, reduction_entry, symmetry_entry}
use Rattle.dockets.specs.declared.fault.LineRule.{LineRule}
use Rattle.dockets.specs.declared.fault.LineRule.TheVariants.{Map, Short, Card}
use Rattle.dockets.specs.declared.fault.LineFault.{LineFault}

-- the number under which a fault of a line is reported
abbrev pub rule_number : LineRule → ℕ
rule_number Map = 21
rule_number Short = 22
rule_number Card = 23

-- the field at a byte: two bytes, the high one first
abbrev pub field_at : List ℕ → ℕ → ℕ
field_at docket byte = 256 * slice_index docket byte + slice_index docket (byte + 1)

-- the field at a byte is there whole
abbrev pub Whole : List ℕ → ℕ → Type 0
Whole docket byte = byte + 2 ≤ length docket

-- a rule, the byte that it speaks of, and what it asks
abbrev pub Check : Type 1
Check = LineRule × ℕ × Type 0

-- everything asked holds
abbrev pub Hold : List Check → Type 0
Hold [] = Unit {0}
Hold ((rule, byte, P) ∷ checks) = P × Hold checks

-- this is the first that does not
abbrev pub FailsAt : LineFault → List Check → Type 0
FailsAt fault [] = ⊥
FailsAt fault ((rule, byte, P) ∷ checks) = ((fault.rule ≡ rule) × (fault.byte ≡ byte) × (P → ⊥)) ⊎ (P × FailsAt fault checks)

-- a field that has to be there
abbrev pub present : List ℕ → ℕ → Check
present docket byte = (Short, byte, Whole docket byte)

-- the pairs behind the count at a place
abbrev pub pairs_at : List ℕ → ℕ → List (ℕ × ℕ)
pairs_at docket place =
    map (λ k. (field_at docket (place + 2 + 4 * k), field_at docket (place + 4 + 4 * k))) (range_with_len 0 (field_at docket place))

-- pair k: its variable is there and fits, then its image is there and fits
abbrev pub pair_checks : List ℕ → ℕ → ℕ → List Check
pair_checks docket place k =
    present docket (place + 2 + 4 * k) ∷
    (Card, place + 2 + 4 * k, VariableFits (pairs_at docket place) k) ∷
    present docket (place + 4 + 4 * k) ∷
    (Card, place + 4 + 4 * k, ImageFits (pairs_at docket place) k) ∷
    []

-- pair k: some pair names the variable of its image
abbrev pub naming_check : List ℕ → ℕ → ℕ → Check
naming_check docket place k = (Card, place + 4 + 4 * k, Named (pairs_at docket place) (var (image_at (pairs_at docket place) k)))

-- the checks of n numbers from k on, one after the other
abbrev pub each : (ℕ → List Check) → ℕ → ℕ → List Check
each checks k zero = []
each checks k (suc n) = checks k ++ each checks (suc k) n

-- n pairs from pair k on
abbrev pub pairs_checks : List ℕ → ℕ → ℕ → ℕ → List Check
pairs_checks docket place = each (pair_checks docket place)

abbrev pub naming_checks : List ℕ → ℕ → ℕ → ℕ → List Check
naming_checks docket place = each (λ k. naming_check docket place k ∷ [])

-- the count of a card's pairs is there, and at most 512
abbrev pub count_checks : List ℕ → ℕ → List Check
count_checks docket place = present docket place ∷ (Card, place, field_at docket place ≤ 512) ∷ []

-- a card: its count, at most 512, then its pairs one by one, and last that every image is over a variable that is named
abbrev pub card_checks : List ℕ → ℕ → List Check
card_checks docket place =
    present docket place ∷
    (Card, place, field_at docket place ≤ 512) ∷
    (pairs_checks docket place 0 (field_at docket place) ++ naming_checks docket place 0 (field_at docket place))

-- the kinds of lines, by the map byte
pub data Kind : Type 0 where
  axioms : Kind
  resolutions : Kind
  reductions : Kind
  symmetries : Kind
  unknown : Kind

abbrev pub kind_of : ℕ → Kind
kind_of b = cond (b == 1) axioms (cond (b == 14) resolutions (cond (b == 10) reductions (cond (b == 18) symmetries unknown)))

-- the fields of each kind behind the map byte
abbrev pub field_checks : List ℕ → ℕ → Kind → List Check
field_checks docket at axioms = present docket (at + 1) ∷ []
field_checks docket at resolutions = present docket (at + 1) ∷ present docket (at + 3) ∷ present docket (at + 5) ∷ []
field_checks docket at reductions = present docket (at + 1) ∷ present docket (at + 3) ∷ []
field_checks docket at symmetries = present docket (at + 1) ∷ card_checks docket (at + 3)
field_checks docket at unknown = []

-- the line at an offset: there is a map byte, it is known, and then its fields
abbrev pub line_checks : List ℕ → ℕ → List Check
line_checks docket at =
    (Short, at, at < length docket) ∷ (Map, at, kind_of (slice_index docket at) ≡ unknown → ⊥) ∷ field_checks docket at (kind_of (slice_index docket at))

-- the line that the bytes at an offset are, by its kind
abbrev pub entry_of : List ℕ → ℕ → Kind → Entry
entry_of docket at axioms = axiom_entry (field_at docket (at + 1))
entry_of docket at resolutions = resolution_entry (field_at docket (at + 1)) (field_at docket (at + 3)) (field_at docket (at + 5))
entry_of docket at reductions = reduction_entry (field_at docket (at + 1)) (field_at docket (at + 3))
entry_of docket at symmetries = symmetry_entry (field_at docket (at + 1)) (pairs_at docket (at + 3))
entry_of docket at unknown = axiom_entry 0

abbrev pub entry_at : List ℕ → ℕ → Entry
entry_at docket at = entry_of docket at (kind_of (slice_index docket at))

-- how many bytes a line of each kind has
abbrev pub length_of : List ℕ → ℕ → Kind → ℕ
length_of docket at axioms = 3
length_of docket at resolutions = 7
length_of docket at reductions = 5
length_of docket at symmetries = 5 + 4 * field_at docket (at + 3)
length_of docket at unknown = 0

abbrev pub length_at : List ℕ → ℕ → ℕ
length_at docket at = length_of docket at (kind_of (slice_index docket at))
