-- A line up to its card: what is asked of it, and what it is.
use Rattle.std.specs.Prelude.{◌≡◌, ℕ, ◌+◌, ◌<◌, List, [], ◌∷◌, ◌++◌, length, slice_index}
use Rattle.dockets.specs.Lines.{CardBehind, entry_for}
use Rattle.dockets.specs.Reading.{Check, Hold, present, Kind, axioms, resolutions, reductions, symmetries, unknown, kind_of, entry_at}
use Rattle.dockets.specs.declared.fault.LineRule.TheVariants.{Map, Short}
use Rattle.dockets.specs.declared.line.Line.{Line}
use Rattle.dockets.specs.declared.line.Line.TheVariants.{Axiom, Resolution, Reduction, Symmetry}

-- there is a map byte, and it is known
abbrev pub map_checks : List ℕ → ℕ → List Check
map_checks docket at = (Short, at, at < length docket) ∷ (Map, at, kind_of (slice_index docket at) ≡ unknown → ⊥) ∷ []

-- the fields of each kind before a card
abbrev pub head_field_checks : List ℕ → ℕ → Kind → List Check
head_field_checks docket at axioms = present docket (at + 1) ∷ []
head_field_checks docket at resolutions = present docket (at + 1) ∷ present docket (at + 3) ∷ present docket (at + 5) ∷ []
head_field_checks docket at reductions = present docket (at + 1) ∷ present docket (at + 3) ∷ []
head_field_checks docket at symmetries = present docket (at + 1) ∷ []
head_field_checks docket at unknown = []

abbrev pub head_checks : List ℕ → ℕ → List Check
head_checks docket at = map_checks docket at ++ head_field_checks docket at (kind_of (slice_index docket at))

-- the kind of a line
abbrev pub line_kind : Line → Kind
line_kind (Axiom j) = axioms
line_kind (Resolution p q v) = resolutions
line_kind (Reduction p v) = reductions
line_kind (Symmetry p place) = symmetries

-- how many bytes a line has before its card
abbrev pub head_len : Line → ℕ
head_len (Axiom j) = 3
head_len (Resolution p q v) = 7
head_len (Reduction p v) = 5
head_len (Symmetry p place) = 3

-- the bytes at an offset are this line up to its card, and end before the next
pub record HeadTaken (docket : List ℕ) (at : ℕ) (line : Line) (next : ℕ) : Type 0 where
  pub holds : Hold (head_checks docket at)
  pub kind_is : kind_of (slice_index docket at) ≡ line_kind line
  pub entry_is : entry_for docket line ≡ entry_at docket at
  pub card_behind : CardBehind at line
  pub ends : next ≡ at + head_len line
