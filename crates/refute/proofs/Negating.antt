-- The pairs 1 to -1 and 2 to -2 make a card.
use Rattle.std.proofs.Common.{◌≡◌, ℕ, zero, suc, ◌<◌, true, List, [], ◌∷◌, is_ok, Ok, Err, Result, refl, arith, MatchResult}
use Rattle.calculus.specs.Literals.{var}
use Rattle.cards.specs.Meant.{meant}
use Rattle.cards.specs.Pairs.{FirstFault, Makes, VariableFits, ImageFits, Named, variable_at, image_at}
use Rattle.cards.specs.declared.card.Card.{Card}
use Rattle.cards.specs.declared.fault.CardFault.{CardFault}
use Rattle.cards.specs.declared.fault.CardFault.TheVariants.{Many, Variable as InVariable, Image as InImage, Unnamed}

abbrev negating : List (ℕ × ℕ)
negating = (1, 3) ∷ (2, 5) ∷ []

first : (j : ℕ) → j < 1 → (variable_at negating j ≡ 1) × (image_at negating j ≡ 3)
first zero h = (refl, refl)
first (suc j) h = absurd (omega arith)

variable_fits : (k : ℕ) → k < 2 → VariableFits negating k
variable_fits zero h = ((omega arith, omega arith), λ j l. absurd (omega arith))
variable_fits (suc zero) h = ((omega arith, omega arith), λ j l. omega (arith, (first j l).0))
variable_fits (suc (suc k)) h = absurd (omega arith)

image_fits : (k : ℕ) → k < 2 → ImageFits negating k
image_fits zero h = ((omega arith, omega arith), λ j l. absurd (omega arith))
image_fits (suc zero) h = ((omega arith, omega arith), λ j l e. absurd (omega (arith, (first j l).1, e)))
image_fits (suc (suc k)) h = absurd (omega arith)

named : (k : ℕ) → k < 2 → Named negating (var (image_at negating k))
named zero h = (0, omega arith, refl)
named (suc zero) h = (1, omega arith, refl)
named (suc (suc k)) h = absurd (omega arith)

no_fault : (e : CardFault) → FirstFault negating e → ⊥
no_fault Many h = absurd (omega arith)
no_fault (InVariable k) (few, at, before, no_fit) = no_fit (variable_fits k at)
no_fault (InImage k) (few, at, before, fits, no_fit) = no_fit (image_fits k at)
no_fault (Unnamed k) (few, at, fit, before, unnamed) = unnamed (named k at)

pub made : (r : Result Card CardFault) → MatchResult r (λ card. Makes negating (meant card)) (FirstFault negating) → is_ok r ≡ true
made (Ok card) h = refl
made (Err e) h = absurd (no_fault e h)
