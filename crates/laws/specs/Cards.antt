-- Cards: exchanges of literals, which cards fit a formula, and which of those are its symmetries.
use Rattle.std.specs.Prelude.{◌≡◌, ℕ, ◌*◌, ◌/◌, ◌%◌, ◌<◌, ◌≤◌, cond, List, map, length, get_or, ◌==◌, slice_index, slice_index_or}
use Rattle.calculus.specs.Sets.{◌∈◌, Same}
use Rattle.calculus.specs.Literals.{var, neg}
use Rattle.calculus.specs.Meaning.{Meaning, level_of, Variable, Code}

-- the image of each variable from 1 to 512, at its place; no two variables have images over the same variable
pub record Card : Type 0 where
  pub images : List ℕ
  pub long : length images ≡ 513
  pub none : get_or images 0 0 ≡ 0
  pub codes : (v : ℕ) → Variable 512 v → Code 512 (slice_index images v)
  pub apart : (v w : ℕ) → Variable 512 v → Variable 512 w → var (slice_index images v) ≡ var (slice_index images w) → v ≡ w

-- the image of a variable; what is past the card stays
abbrev pub image_of : Card → ℕ → ℕ
image_of card v = slice_index_or card.images v (2 * v)

-- the image of a literal: that of a negation is the negation of the image
abbrev pub act : Card → ℕ → ℕ
act card l = cond (l % 2 == 0) (image_of card (l / 2)) (neg (image_of card (l / 2)))

-- C is the image of P
abbrev pub Image : Card → List ℕ → List ℕ → Type 0
Image card P C = Same C (map (act card) P)

-- the card fixes what is no variable of the formula, and keeps each variable's level
pub record Admissible (m : Meaning) (card : Card) : Type 0 where
  pub fixes : (v : ℕ) → m.n < v → v ≤ 512 → image_of card v ≡ 2 * v
  pub levels : (v : ℕ) → Variable m.n v → level_of m (var (image_of card v)) ≡ level_of m v

-- C is, as a set, among the clauses of the formula
abbrev pub Among : Meaning → List ℕ → Type 0
Among m C = (D : List ℕ) × (D ∈ m.clauses) × Same C D

-- the image of every clause is among the clauses
abbrev pub Carries : Meaning → Card → Type 0
Carries m card = (C : List ℕ) → C ∈ m.clauses → Among m (map (act card) C)

-- the card is admissible and takes clauses to clauses
pub record Symmetry (m : Meaning) (card : Card) : Type 0 where
  pub admissible : Admissible m card
  pub carries : Carries m card

-- one card undoes the other
abbrev pub Undoes : Card → Card → Type 0
Undoes back card = (l : ℕ) → act back (act card l) ≡ l
