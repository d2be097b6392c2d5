-- The lines of a docket, and the bytes that each is written as.
use Rattle.std.specs.Prelude.{ℕ, ◌/◌, ◌%◌, ◌<◌, List, [], ◌∷◌, ◌++◌, length}
use Rattle.std.specs.List.{flat_map}
use Rattle.cards.specs.Pairs.{Lawful}

-- clause j; lines p and q and the variable v; line p and the variable v; line p and the pairs of its card
pub data Entry : Type 0 where
  axiom_entry : ℕ → Entry
  resolution_entry : ℕ → ℕ → ℕ → Entry
  reduction_entry : ℕ → ℕ → Entry
  symmetry_entry : ℕ → List (ℕ × ℕ) → Entry

-- a field is two bytes, the high one first
abbrev pub field : ℕ → List ℕ
field x = x / 256 ∷ x % 256 ∷ []

-- a pair is its variable, then its image code
abbrev pub pair : ℕ × ℕ → List ℕ
pair p = field p.0 ++ field p.1

-- a map byte, then the fields whose bit stands in it, lowest bit first: 1 clause, 2 first line, 4 second line, 8 variable, 16 card;
-- a card is the count of its pairs, then the pairs
unfoldable pub encoded : Entry → List ℕ
encoded (axiom_entry j) = 1 ∷ field j
encoded (resolution_entry p q v) = 14 ∷ (field p ++ (field q ++ field v))
encoded (reduction_entry p v) = 10 ∷ (field p ++ field v)
encoded (symmetry_entry p pairs) = 18 ∷ (field p ++ (field (length pairs) ++ flat_map pair pairs))

-- a number that a field can hold
abbrev pub Fits : ℕ → Type 0
Fits x = x < 65536

-- an entry that can be written: its numbers fit their fields, and its pairs make a card
abbrev pub Writable : Entry → Type 0
Writable (axiom_entry j) = Fits j
Writable (resolution_entry p q v) = Fits p × Fits q × Fits v
Writable (reduction_entry p v) = Fits p × Fits v
Writable (symmetry_entry p pairs) = Fits p × Lawful pairs

-- the bytes of several lines, one after the other
abbrev pub encoded_all : List Entry → List ℕ
encoded_all entries = flat_map encoded entries
