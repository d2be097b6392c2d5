-- How one pair is judged by the last variable and by the variables that images seen are over.
use Rattle.std.specs.Prelude.{◌≡◌, ℕ, ◌<◌, ◌≤◌, Bool, true, false, List, length, slice_index_or}
use Rattle.calculus.specs.Literals.{var}
use Rattle.calculus.specs.Meaning.{Code}
use Rattle.cards.specs.Pairs.{image_at}
use Rattle.cards.specs.declared.fault.CardFault.{CardFault}
use Rattle.cards.specs.declared.fault.CardFault.TheVariants.{Many, Variable as InVariable, Image as InImage, Unnamed}

-- v is a variable above the last
abbrev pub Rises : ℕ → ℕ → Type 0
Rises last v = (last < v) × (v ≤ 512)

-- x is a literal over a variable that is not marked as seen
abbrev pub Fresh : List Bool → ℕ → Type 0
Fresh seen x = Code 512 x × (slice_index_or seen (var x) false ≡ false)

-- the fault of pair k: its variable does not rise, or else its image is not fresh
abbrev pub Judged : ℕ → ℕ → ℕ → ℕ → List Bool → CardFault → Type 0
Judged k v x last seen Many = ⊥
Judged k v x last seen (InVariable j) = (j ≡ k) × (Rises last v → ⊥)
Judged k v x last seen (InImage j) = (j ≡ k) × Rises last v × (Fresh seen x → ⊥)
Judged k v x last seen (Unnamed j) = ⊥

-- the variables that the images before pair k are over are marked
abbrev pub AllMarked : List (ℕ × ℕ) → List Bool → ℕ → Type 0
AllMarked pairs named k = (j : ℕ) → j < k → slice_index_or named (var (image_at pairs j)) false ≡ true

-- the variable that the image of pair k is over is the first that is not marked
abbrev pub FirstUnmarked : List (ℕ × ℕ) → List Bool → ℕ → Type 0
FirstUnmarked pairs named k = (k < length pairs) × AllMarked pairs named k × (slice_index_or named (var (image_at pairs k)) false ≡ false)
