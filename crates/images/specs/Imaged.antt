-- The image of a formula under a card.
use Rattle.std.specs.Prelude.{map}
use Rattle.calculus.specs.Meaning.{Meaning}
use Rattle.laws.specs.Cards.{Card, act}

-- the same prefix, and each literal replaced by its image in the same place
abbrev pub imaged : Card → Meaning → Meaning
imaged card m = record { n = m.n; levels = m.levels; quantifiers = m.quantifiers; clauses = map (map (act card)) m.clauses }
