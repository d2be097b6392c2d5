-- Which images make a card.
use Rattle.std.specs.Prelude.{◌≡◌, ℕ, List, length, slice_index, slice_index_or}
use Rattle.calculus.specs.Literals.{var}
use Rattle.calculus.specs.Meaning.{Variable, Code}

-- the images are those of a signed permutation: each is a literal, and no two are over the same variable; place 0 holds 0
pub record Permutes (images : List ℕ) : Type 0 where
  pub long : length images ≡ 513
  pub none : slice_index_or images 0 0 ≡ 0
  pub codes : (v : ℕ) → Variable 512 v → Code 512 (slice_index images v)
  pub apart : (v w : ℕ) → Variable 512 v → Variable 512 w → var (slice_index images v) ≡ var (slice_index images w) → v ≡ w
