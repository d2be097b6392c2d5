-- The part of a docket that is the line at an offset: all of its bytes are there; of a card only the count is judged.
use Rattle.std.specs.Prelude.{◌≡◌, ℕ, ◌+◌, ◌*◌, ◌<◌, ◌≤◌, List, [], ◌∷◌, length, slice_index}
use Rattle.dockets.specs.Reading.{Check, each, present, field_at, Kind, axioms, resolutions, reductions, symmetries, unknown, kind_of}
use Rattle.dockets.specs.declared.fault.LineRule.TheVariants.{Map, Short, Card}

-- the two fields of pair k are there, and those of n pairs from pair k on
abbrev pub presence_check : List ℕ → ℕ → ℕ → List Check
presence_check docket place k = present docket (place + 2 + 4 * k) ∷ present docket (place + 4 + 4 * k) ∷ []

abbrev pub presence_checks : List ℕ → ℕ → ℕ → ℕ → List Check
presence_checks docket place = each (presence_check docket place)

abbrev pub part_field_checks : List ℕ → ℕ → Kind → List Check
part_field_checks docket at axioms = present docket (at + 1) ∷ []
part_field_checks docket at resolutions = present docket (at + 1) ∷ present docket (at + 3) ∷ present docket (at + 5) ∷ []
part_field_checks docket at reductions = present docket (at + 1) ∷ present docket (at + 3) ∷ []
part_field_checks docket at symmetries =
    present docket (at + 1) ∷
    present docket (at + 3) ∷
    (Card, at + 3, field_at docket (at + 3) ≤ 512) ∷
    presence_checks docket (at + 3) 0 (field_at docket (at + 3))
part_field_checks docket at unknown = []

-- an offset at or past the end is short
abbrev pub part_checks : List ℕ → ℕ → List Check
part_checks docket at =
    (Short, at, at < length docket) ∷ (Map, at, kind_of (slice_index docket at) ≡ unknown → ⊥) ∷ part_field_checks docket at (kind_of (slice_index docket at))
