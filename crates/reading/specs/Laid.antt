-- What the cells hold once clauses are laid into them: codes and running counts, then zeros.
use Rattle.std.specs.Prelude.{ℕ, ◌+◌, ◌-◌, List, [], ◌∷◌, ◌++◌, length, replicate}
use Rattle.std.specs.List.{flat_map}

-- so many cells: these numbers, then zeros
abbrev pub padded : ℕ → List ℕ → List ℕ
padded size xs = xs ++ replicate (size - length xs) 0

-- the codes of all clauses, one behind the other
abbrev pub all_codes : List (List ℕ) → List ℕ
all_codes Cs = flat_map (λ C. C) Cs

-- the count of literals after each clause, where k literals stand before them
abbrev pub running : ℕ → List (List ℕ) → List ℕ
running k [] = []
running k (C ∷ Cs) = (k + length C) ∷ running (k + length C) Cs
