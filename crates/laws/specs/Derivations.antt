-- Derivations, line by line, and what can be derived.
use Rattle.std.specs.Prelude.{ℕ, ◌<◌, List, [], ◌∷◌, ◌++◌, length, slice_index_or}
use Rattle.std.specs.List.{AllByRecursion}
use Rattle.calculus.specs.Sets.{◌∈◌, Same}
use Rattle.calculus.specs.Literals.{Tautological}
use Rattle.calculus.specs.Meaning.{Meaning, Variable, clause_of}
use Rattle.laws.specs.Clauses.{Ascending, Resolvable, Resolvent, Reducible, Reduced}
use Rattle.laws.specs.Cards.{Image, Symmetry}
use Rattle.laws.specs.Lines.{Line, axiom_line, resolution, reduction, symmetry, Plain}

-- the clause that line p keeps, or the empty list where there is no such line
abbrev pub line_of : List (List ℕ) → ℕ → List ℕ
line_of kept p = slice_index_or kept p []

-- C is the clause of the line's rule, over the clauses kept so far
abbrev pub Gives : Meaning → List (List ℕ) → Line → List ℕ → Type 0
Gives m kept (axiom_line j) C = Ascending C × Same C (clause_of m j)
Gives m kept (resolution p q v) C = Ascending C × Resolvent (line_of kept p) (line_of kept q) v C
Gives m kept (reduction p v) C = Ascending C × Reduced (line_of kept p) v C
Gives m kept (symmetry p card) C = Ascending C × Image card (line_of kept p) C

-- after the clauses kept, the line may follow, and it keeps C
abbrev pub Permits : Meaning → List (List ℕ) → Line → List ℕ → Type 0
Permits m kept (axiom_line j) C = (j < length m.clauses) × Gives m kept (axiom_line j) C × (Tautological C → ⊥)
Permits m kept (resolution p q v) C =
    (p < length kept) × (q < length kept) × Variable m.n v × Resolvable m (line_of kept p) (line_of kept q) v ×
    Gives m kept (resolution p q v) C × (Tautological C → ⊥)
Permits m kept (reduction p v) C = (p < length kept) × Variable m.n v × Reducible m (line_of kept p) v × Gives m kept (reduction p v) C
Permits m kept (symmetry p card) C = (p < length kept) × Symmetry m card × Gives m kept (symmetry p card) C

-- after the clauses kept, the lines follow one by one, and keep the clauses, one each
abbrev pub Follows : Meaning → List (List ℕ) → List Line → List (List ℕ) → Type 0
Follows m kept [] [] = Unit {0}
Follows m kept [] (C ∷ Cs) = ⊥
Follows m kept (l ∷ ls) [] = ⊥
Follows m kept (l ∷ ls) (C ∷ Cs) = Permits m kept l C × Follows m (kept ++ (C ∷ [])) ls Cs

-- a derivation: lines from the first on, with the clauses that they keep
abbrev pub Derivation : Meaning → List Line → List (List ℕ) → Type 0
Derivation m lines clauses = Follows m [] lines clauses

-- some derivation keeps C
abbrev pub Derivable : Meaning → List ℕ → Type 0
Derivable m C = (lines : List Line) × (clauses : List (List ℕ)) × Derivation m lines clauses × (C ∈ clauses)

-- some derivation without symmetry lines keeps C
abbrev pub DerivablePlainly : Meaning → List ℕ → Type 0
DerivablePlainly m C = (lines : List Line) × (clauses : List (List ℕ)) × Derivation m lines clauses × AllByRecursion Plain lines × (C ∈ clauses)
