-- The image of lines under a card, line by line: what stands in the place of a symmetry line.
use Rattle.std.specs.Prelude.{ℕ, suc, ◌+◌, ◌%◌, cond, List, [], ◌∷◌, map, ◌==◌}
use Rattle.calculus.specs.Literals.{var}
use Rattle.calculus.specs.Meaning.{Meaning, clause_of}
use Rattle.laws.specs.Cards.{Card, image_of, act}
use Rattle.laws.specs.Lines.{Line, axiom_line, resolution, reduction, symmetry}
use Rattle.laws.specs.Claims.{sorted, same}

-- the number of the first clause with the literals of C
abbrev pub matching : List (List ℕ) → List ℕ → ℕ
matching [] C = 0
matching (D ∷ Ds) C = cond (same C D) 0 (suc (matching Ds C))

-- the image of a line, with its parents shift lines further on: a clause goes to one that matches its image, and where the image of
-- the pivot is negated the parents are exchanged; a symmetry line only moves on
abbrev pub image_line : Meaning → Card → ℕ → Line → Line
image_line m card shift (axiom_line j) = axiom_line (matching m.clauses (map (act card) (clause_of m j)))
image_line m card shift (resolution p q v) =
    cond (image_of card v % 2 == 0) (resolution (shift + p) (shift + q) (var (image_of card v))) (resolution (shift + q) (shift + p) (var (image_of card v)))
image_line m card shift (reduction p v) = reduction (shift + p) (var (image_of card v))
image_line m card shift (symmetry p other) = symmetry (shift + p) other

-- the images of lines that are put behind shift other lines
abbrev pub image_lines : Meaning → Card → ℕ → List Line → List Line
image_lines m card shift lines = map (image_line m card shift) lines

-- the image of a clause, and of clauses
abbrev pub image_clause : Card → List ℕ → List ℕ
image_clause card C = sorted (map (act card) C)

abbrev pub image_clauses : Card → List (List ℕ) → List (List ℕ)
image_clauses card clauses = map (image_clause card) clauses
