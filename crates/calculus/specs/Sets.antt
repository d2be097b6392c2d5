-- Lists read as sets.
use Rattle.std.specs.Prelude.{◌≡◌, ℕ, Bool, false, ◌||◌, ◌⊎◌, ◌↔◌, List, [], ◌∷◌, ◌==◌}

infix 40 ◌∈◌
-- x stands in the list
abbrev pub ◌∈◌ : {A : Type 0} → A → List A → Type 0
x ∈ [] = ⊥
x ∈ (y ∷ ys) = (x ≡ y) ⊎ (x ∈ ys)

-- two lists hold the same elements
abbrev pub Same : {A : Type 0} → List A → List A → Type 0
Same {A} xs ys = (x : A) → (x ∈ xs) ↔ (x ∈ ys)

-- the test that the number x stands in the list
abbrev pub has : ℕ → List ℕ → Bool
has x [] = false
has x (y ∷ ys) = x == y || has x ys
