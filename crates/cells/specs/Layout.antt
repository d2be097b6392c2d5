-- How lines lie in cells: each is its length, then its codes.
use Rattle.std.specs.Prelude.{◌≡◌, ℕ, zero, suc, ◌+◌, List, [], ◌∷◌, ◌++◌, length, take, drop}

-- the cells of the lines, one line behind the other
abbrev pub flat : List (List ℕ) → List ℕ
flat [] = []
flat (C ∷ Cs) = length C ∷ (C ++ flat Cs)

-- the first k lines in the cells
abbrev pub parse : ℕ → List ℕ → List (List ℕ)
parse zero cells = []
parse (suc k) [] = []
parse (suc k) (n ∷ cells) = take n cells ∷ parse k (drop n cells)

-- the place where line p begins
abbrev pub start : List (List ℕ) → ℕ → ℕ
start lines p = length (flat (take p lines))

-- the line of C lies at the place
abbrev pub Lies : List ℕ → ℕ → List ℕ → Type 0
Lies cells place C = take (1 + length C) (drop place cells) ≡ length C ∷ C
