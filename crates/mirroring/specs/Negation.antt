-- The formula with every literal negated, and the card that does this.
use Rattle.std.specs.Prelude.{◌≡◌, ℕ, ◌+◌, ◌*◌, ◌<◌, List, map, slice_index_or}
use Rattle.calculus.specs.Literals.{neg}
use Rattle.calculus.specs.Meaning.{Meaning, Variable}
use Rattle.laws.specs.Cards.{Card, image_of}

-- the same prefix, and each literal replaced by its negation in the same place
abbrev pub negated : Meaning → Meaning
negated m = record { n = m.n; levels = m.levels; quantifiers = m.quantifiers; clauses = map (map neg) m.clauses }

-- the card takes each variable up to n to its negation, and what is above n to itself
abbrev pub Negates : ℕ → Card → Type 0
Negates n card = ((v : ℕ) → Variable n v → image_of card v ≡ 2 * v + 1) × ((v : ℕ) → n < v → image_of card v ≡ 2 * v)

-- the first n pairs are those of the variables 1 to n and their negations
abbrev pub Negations : ℕ → List (ℕ × ℕ) → Type 0
Negations n pairs = (k : ℕ) → k < n → slice_index_or pairs k (0, 0) ≡ (k + 1, 2 * (k + 1) + 1)
