-- The two halves of what makes a card admissible.
use Rattle.std.specs.Prelude.{◌≡◌, ℕ, ◌*◌, ◌<◌, ◌≤◌}
use Rattle.calculus.specs.Literals.{var}
use Rattle.calculus.specs.Meaning.{Meaning, Variable, level_of}
use Rattle.laws.specs.Cards.{Card, image_of}

-- the card fixes what is no variable of the formula
abbrev pub FixesOthers : Meaning → Card → Type 0
FixesOthers m card = (v : ℕ) → m.n < v → v ≤ 512 → image_of card v ≡ 2 * v

-- the image of v is over a variable of the same level
abbrev pub KeepsLevel : Meaning → Card → ℕ → Type 0
KeepsLevel m card v = level_of m (var (image_of card v)) ≡ level_of m v

-- the image of each variable is over one of the same level
abbrev pub KeepsLevels : Meaning → Card → Type 0
KeepsLevels m card = (v : ℕ) → Variable m.n v → KeepsLevel m card v
