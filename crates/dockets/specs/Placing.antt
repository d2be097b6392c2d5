-- Where a fault of pairs stands in a docket, and how many fields are asked for before it is found.
use Rattle.std.specs.Prelude.{◌≡◌, ℕ, ◌+◌, ◌*◌}
use Rattle.cards.specs.declared.fault.CardFault.{CardFault}
use Rattle.cards.specs.declared.fault.CardFault.TheVariants.{Many, Variable as InVariable, Image as InImage, Unnamed}
use Rattle.dockets.specs.declared.fault.LineRule.{LineRule}
use Rattle.dockets.specs.declared.fault.LineFault.{LineFault}

-- how many fields behind the count of a card are asked for before the fault is found; each pair has two
abbrev pub asked : ℕ → CardFault → ℕ
asked count Many = 0
asked count (InVariable k) = 2 * k + 1
asked count (InImage k) = 2 * k + 2
asked count (Unnamed k) = 2 * count

-- the byte of the field that has the fault
abbrev pub byte_of : ℕ → CardFault → ℕ
byte_of place Many = place
byte_of place (InVariable k) = place + 2 + 4 * k
byte_of place (InImage k) = place + 4 + 4 * k
byte_of place (Unnamed k) = place + 4 + 4 * k

abbrev pub IsFault : LineRule → ℕ → LineFault → Type 0
IsFault rule byte fault = (fault.rule ≡ rule) × (fault.byte ≡ byte)
