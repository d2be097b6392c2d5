-- The checks of a claim, in their order, each with the number of its refusal; conditions are said in the words of the calculus.
use Rattle.std.specs.Prelude.{◌≡◌, ℕ, ◌<◌, ◌⊎◌, List, [], ◌∷◌, ◌++◌, length}
use Rattle.calculus.specs.Literals.{Tautological}
use Rattle.calculus.specs.Meaning.{Meaning, Variable, clause_of}
use Rattle.laws.specs.Clauses.{Resolvable, Reducible}
use Rattle.laws.specs.Cards.{Admissible, Carries}
use Rattle.laws.specs.Lines.{Line, axiom_line, resolution, reduction, symmetry}
use Rattle.laws.specs.Derivations.{line_of, Gives}
use Rattle.laws.specs.Store.{Store, Room, Closed}

-- a condition, and the number of the refusal where it fails
abbrev pub Check : Type 1
Check = ℕ × Type 0

-- the conditions of each rule, in their order
abbrev pub conditions : Meaning → List (List ℕ) → Line → List Check
conditions m kept (axiom_line j) = (32, j < length m.clauses) ∷ (33, Tautological (clause_of m j) → ⊥) ∷ []
conditions m kept (resolution p q v) =
    (32, p < length kept) ∷
    (32, q < length kept) ∷
    (32, Variable m.n v) ∷
    (34, Resolvable m (line_of kept p) (line_of kept q) v) ∷
    (33, ((C : List ℕ) → Gives m kept (resolution p q v) C → Tautological C → ⊥)) ∷
    []
conditions m kept (reduction p v) = (32, p < length kept) ∷ (32, Variable m.n v) ∷ (35, Reducible m (line_of kept p) v) ∷ []
conditions m kept (symmetry p card) = (32, p < length kept) ∷ (36, Admissible m card) ∷ (37, Carries m card) ∷ []

-- first that no empty clause has been kept, then the rule's conditions, last that there is room for the rule's clause
abbrev pub checks : Store → Meaning → List (List ℕ) → Line → List Check
checks S m kept line =
    (31, Closed kept → ⊥) ∷ (conditions m kept line ++ ((38, ((C : List ℕ) → Gives m kept line C → Room S kept C)) ∷ []))

-- every condition holds
abbrev pub Hold : List Check → Type 0
Hold [] = Unit {0}
Hold ((k, P) ∷ cs) = P × Hold cs

-- some condition with the number k fails, and those before it hold
abbrev pub FailsWith : ℕ → List Check → Type 0
FailsWith k [] = ⊥
FailsWith k ((j, P) ∷ cs) = ((k ≡ j) × (P → ⊥)) ⊎ (P × FailsWith k cs)

-- the claim is granted, and keeps C
abbrev pub Granted : Store → Meaning → List (List ℕ) → Line → List ℕ → Type 0
Granted S m kept line C = Hold (checks S m kept line) × Gives m kept line C

-- the claim is refused with the number k
abbrev pub RefusedWith : Store → Meaning → List (List ℕ) → Line → ℕ → Type 0
RefusedWith S m kept line k = FailsWith k (checks S m kept line)
