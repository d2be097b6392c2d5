-- The line of a docket that a decoded line is.
use Rattle.std.specs.Prelude.{◌≡◌, ℕ, ◌+◌, List}
use Rattle.dockets.specs.Encoding.{Entry, axiom_entry, resolution_entry, reduction_entry, symmetry_entry}
use Rattle.dockets.specs.Reading.{pairs_at}
use Rattle.dockets.specs.declared.line.Line.{Line}
use Rattle.dockets.specs.declared.line.Line.TheVariants.{Axiom, Resolution, Reduction, Symmetry}

-- the entry that a line of a docket stands for; the pairs of a card stand at its place
abbrev pub entry_for : List ℕ → Line → Entry
entry_for docket (Axiom j) = axiom_entry j
entry_for docket (Resolution p q v) = resolution_entry p q v
entry_for docket (Reduction p v) = reduction_entry p v
entry_for docket (Symmetry p place) = symmetry_entry p (pairs_at docket place)

-- the card of a line stands behind its map byte and its first field
abbrev pub CardBehind : ℕ → Line → Type 0
CardBehind at (Axiom j) = Unit {0}
CardBehind at (Resolution p q v) = Unit {0}
CardBehind at (Reduction p v) = Unit {0}
CardBehind at (Symmetry p place) = place ≡ at + 3
