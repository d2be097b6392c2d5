-- The rules of the calculus on clauses, as relations between sets of literals. A clause is kept as the ascending list of its codes.
use Rattle.std.specs.Prelude.{◌≡◌, ℕ, ◌+◌, ◌*◌, ◌<◌, ◌⊎◌, ◌↔◌, List, [], ◌∷◌, ◌≢◌}
use Rattle.calculus.specs.Sets.{◌∈◌}
use Rattle.calculus.specs.Literals.{var}
use Rattle.calculus.specs.Meaning.{Meaning, level_of, quantifier_of}

-- codes in ascending order, each once: there is one such list for each set of literals
abbrev pub Ascending : List ℕ → Type 0
Ascending [] = Unit {0}
Ascending (l ∷ ls) = ((k : ℕ) → k ∈ ls → l < k) × Ascending ls

-- P and Q may be resolved upon v: it is existential, P has it, and Q has its negation
abbrev pub Resolvable : Meaning → List ℕ → List ℕ → ℕ → Type 0
Resolvable m P Q v = (quantifier_of m v ≡ 1) × (2 * v ∈ P) × (2 * v + 1 ∈ Q)

-- C is the resolvent: what is in P and is not v, and what is in Q and is not the negation of v
abbrev pub Resolvent : List ℕ → List ℕ → ℕ → List ℕ → Type 0
Resolvent P Q v C = (l : ℕ) → (l ∈ C) ↔ (((l ∈ P) × (l ≢ 2 * v)) ⊎ ((l ∈ Q) × (l ≢ 2 * v + 1)))

-- every existential literal of P has a smaller level than v
abbrev pub Innermost : Meaning → List ℕ → ℕ → Type 0
Innermost m P v = (l : ℕ) → l ∈ P → quantifier_of m (var l) ≡ 1 → level_of m (var l) < level_of m v

-- P may be reduced by v: it is universal, P has it with some sign, and no existential literal of P lies as deep
abbrev pub Reducible : Meaning → List ℕ → ℕ → Type 0
Reducible m P v = (quantifier_of m v ≡ 2) × ((2 * v ∈ P) ⊎ (2 * v + 1 ∈ P)) × Innermost m P v

-- C is P without v
abbrev pub Reduced : List ℕ → ℕ → List ℕ → Type 0
Reduced P v C = (l : ℕ) → (l ∈ C) ↔ ((l ∈ P) × (var l ≢ v))
