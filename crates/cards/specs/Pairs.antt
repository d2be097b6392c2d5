-- Which card a list of pairs makes, and which fault another list has. A pair is a variable and its image.
use Rattle.std.specs.Prelude.{◌≡◌, ℕ, ◌*◌, ◌<◌, ◌≤◌, List, length, ◌≢◌, slice_index_or}
use Rattle.calculus.specs.Literals.{var}
use Rattle.calculus.specs.Meaning.{Variable, Code}
use Rattle.laws.specs.Cards.{Card, image_of}
use Rattle.cards.specs.declared.fault.CardFault.{CardFault}
use Rattle.cards.specs.declared.fault.CardFault.TheVariants.{Many, Variable as InVariable, Image as InImage, Unnamed}

-- the number under which a fault of a card is reported
abbrev pub card_number : CardFault → ℕ
card_number Many = 23
card_number (InVariable k) = 23
card_number (InImage k) = 23
card_number (Unnamed k) = 23

-- the variable and the image of pair k
abbrev pub variable_at : List (ℕ × ℕ) → ℕ → ℕ
variable_at pairs k = (slice_index_or pairs k (0, 0)).0

abbrev pub image_at : List (ℕ × ℕ) → ℕ → ℕ
image_at pairs k = (slice_index_or pairs k (0, 0)).1

-- some pair names v
abbrev pub Named : List (ℕ × ℕ) → ℕ → Type 0
Named pairs v = (k : ℕ) × (k < length pairs) × (variable_at pairs k ≡ v)

-- the variable of pair k is one of 1 to 512, above those of the pairs before it
abbrev pub VariableFits : List (ℕ × ℕ) → ℕ → Type 0
VariableFits pairs k = Variable 512 (variable_at pairs k) × ((j : ℕ) → j < k → variable_at pairs j < variable_at pairs k)

-- the image of pair k is a literal, over none of the variables that the images before it are over
abbrev pub ImageFits : List (ℕ × ℕ) → ℕ → Type 0
ImageFits pairs k = Code 512 (image_at pairs k) × ((j : ℕ) → j < k → var (image_at pairs j) ≢ var (image_at pairs k))

-- the pairs before pair k fit
abbrev pub FitBefore : List (ℕ × ℕ) → ℕ → Type 0
FitBefore pairs k = (j : ℕ) → j < k → VariableFits pairs j × ImageFits pairs j

-- the pairs make a card: at most 512 that fit, and the variable of each image is itself named
pub record Lawful (pairs : List (ℕ × ℕ)) : Type 0 where
  pub few : length pairs ≤ 512
  pub fit : FitBefore pairs (length pairs)
  pub named : (k : ℕ) → k < length pairs → Named pairs (var (image_at pairs k))

-- the card takes each variable that is named to its image, and the others to themselves
pub record Makes (pairs : List (ℕ × ℕ)) (card : Card) : Type 0 where
  pub lawful : Lawful pairs
  pub moves : (k : ℕ) → k < length pairs → image_of card (variable_at pairs k) ≡ image_at pairs k
  pub keeps : (v : ℕ) → (Named pairs v → ⊥) → image_of card v ≡ 2 * v

-- the first fault: the count, then pair by pair the variable before its image, last the first image whose variable no pair names
abbrev pub FirstFault : List (ℕ × ℕ) → CardFault → Type 0
FirstFault pairs Many = 512 < length pairs
FirstFault pairs (InVariable k) = (length pairs ≤ 512) × (k < length pairs) × FitBefore pairs k × (VariableFits pairs k → ⊥)
FirstFault pairs (InImage k) = (length pairs ≤ 512) × (k < length pairs) × FitBefore pairs k × VariableFits pairs k × (ImageFits pairs k → ⊥)
FirstFault pairs (Unnamed k) =
    (length pairs ≤ 512) × (k < length pairs) × FitBefore pairs (length pairs) ×
    ((j : ℕ) → j < k → Named pairs (var (image_at pairs j))) × (Named pairs (var (image_at pairs k)) → ⊥)
