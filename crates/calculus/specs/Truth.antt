-- Which formulas are true: the variables are set in order, the existential side choosing for some, the universal side for the others.
use Rattle.std.specs.Prelude.{ℕ, ◌+◌, ◌*◌, Bool, true, false, cond, ◌&&◌, ◌||◌, List, [], ◌∷◌, filter, ◌==◌, nat_eq}
use Rattle.std.specs.List.{range_with_len, flat_map}
use Rattle.calculus.specs.Sets.{has}
use Rattle.calculus.specs.Meaning.{Meaning, level_of, quantifier_of}

-- the variables of level k, by number
abbrev pub at_level : Meaning → ℕ → List ℕ
at_level m k = filter (λ v. nat_eq (level_of m v) k) (range_with_len 1 m.n)

-- all variables, by level, then by number; there are at most n levels
abbrev pub order : Meaning → List ℕ
order m = flat_map (at_level m) (range_with_len 1 m.n)

-- a setting of some variables: the literals that it makes true, one for each of them
abbrev pub Setting : Type 0
Setting = List ℕ

-- some literal of the clause is true
abbrev pub satisfied : Setting → List ℕ → Bool
satisfied α [] = false
satisfied α (l ∷ ls) = has l α || satisfied α ls

-- every clause has a true literal
abbrev pub all_satisfied : Setting → List (List ℕ) → Bool
all_satisfied α [] = true
all_satisfied α (C ∷ Cs) = satisfied α C && all_satisfied α Cs

-- the setting α is won, where vs are the variables left, in order: a complete one if it satisfies every clause; another if
-- the next variable is existential and one of its two values leads to a won setting, or universal and both do
unfoldable pub won : Meaning → List ℕ → Setting → Bool
won m [] α = all_satisfied α m.clauses
won m (v ∷ vs) α =
    cond (quantifier_of m v == 1) (won m vs ((2 * v) ∷ α) || won m vs ((2 * v + 1) ∷ α)) (won m vs ((2 * v) ∷ α) && won m vs ((2 * v + 1) ∷ α))

-- a formula is true if the empty setting is won
unfoldable pub truth : Meaning → Bool
truth m = won m (order m) []
