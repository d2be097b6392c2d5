-- The order in which truth sets the variables, pinned by what it holds.
use Rattle.std.specs.Prelude.{◌≡◌, ℕ, ◌<◌, ◌⊎◌, ◌↔◌, List, [], ◌∷◌, length}
use Rattle.calculus.specs.Sets.{◌∈◌}
use Rattle.calculus.specs.Meaning.{Meaning, Formed, Variable, level_of}
use Rattle.calculus.specs.Truth.{order}

-- v has a smaller level than w, or the same level and a smaller number
abbrev pub Precedes : Meaning → ℕ → ℕ → Type 0
Precedes m v w = (level_of m v < level_of m w) ⊎ ((level_of m v ≡ level_of m w) × (v < w))

-- each precedes all that follow it
abbrev pub InOrder : Meaning → List ℕ → Type 0
InOrder m [] = Unit {0}
InOrder m (v ∷ vs) = ((w : ℕ) → w ∈ vs → Precedes m v w) × InOrder m vs

-- the order holds the variables, each once, by level and then by number
pub record OrderRight (m : Meaning) : Type 0 where
  pub holds : (v : ℕ) → (v ∈ order m) ↔ Variable m.n v
  pub long : length (order m) ≡ m.n
  pub in_order : InOrder m (order m)

abbrev pub OrdersRight : Type 0
OrdersRight = (m : Meaning) → Formed m → OrderRight m
