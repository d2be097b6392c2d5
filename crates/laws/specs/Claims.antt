-- What a claim answers, as it computes: the tests in the order of the checks, and the clause of the rule.
use Rattle.std.specs.Prelude.{ℕ, ◌+◌, ◌*◌, Bool, true, false, cond, not, ◌&&◌, ◌||◌, List, [], ◌∷◌, ◌++◌, map, length, ◌==◌, nat_le, nat_lt}
use Rattle.calculus.specs.Sets.{has}
use Rattle.calculus.specs.Literals.{var, neg}
use Rattle.calculus.specs.Meaning.{Meaning, level_of, quantifier_of, clause_of}
use Rattle.laws.specs.Cards.{Card, act}
use Rattle.laws.specs.Lines.{Line, axiom_line, resolution, reduction, symmetry}
use Rattle.laws.specs.Derivations.{line_of}
use Rattle.laws.specs.Store.{Store, weight, weights}

-- the clause that is kept, or the number of the refusal
pub data Answer : Type 0 where
  keeps : List ℕ → Answer
  refused : ℕ → Answer

-- x put at its place in an ascending list
abbrev pub insert : ℕ → List ℕ → List ℕ
insert x [] = x ∷ []
insert x (y ∷ ys) = cond (nat_lt x y) (x ∷ y ∷ ys) (cond (x == y) (y ∷ ys) (y ∷ insert x ys))

-- the elements in ascending order, each once
abbrev pub sorted : List ℕ → List ℕ
sorted [] = []
sorted (x ∷ xs) = insert x (sorted xs)

-- the elements other than x
abbrev pub without : ℕ → List ℕ → List ℕ
without x [] = []
without x (y ∷ ys) = cond (x == y) (without x ys) (y ∷ without x ys)

-- every element passes
abbrev pub every : {A : Type 0} → (A → Bool) → List A → Bool
every f [] = true
every f (x ∷ xs) = f x && every f xs

-- some element passes
abbrev pub some_of : {A : Type 0} → (A → Bool) → List A → Bool
some_of f [] = false
some_of f (x ∷ xs) = f x || some_of f xs

-- every element passes with its place, of which the first is i
abbrev pub every_place : (ℕ → ℕ → Bool) → ℕ → List ℕ → Bool
every_place f i [] = true
every_place f i (x ∷ xs) = f i x && every_place f (i + 1) xs

-- the resolvent of P and Q upon v
abbrev pub resolvent : List ℕ → List ℕ → ℕ → List ℕ
resolvent P Q v = sorted (without (2 * v) P ++ without (2 * v + 1) Q)

-- P without v
abbrev pub reduced : List ℕ → ℕ → List ℕ
reduced P v = sorted (without (2 * v) (without (2 * v + 1) P))

-- the clause of the line's rule
abbrev pub given : Meaning → List (List ℕ) → Line → List ℕ
given m kept (axiom_line j) = sorted (clause_of m j)
given m kept (resolution p q v) = resolvent (line_of kept p) (line_of kept q) v
given m kept (reduction p v) = reduced (line_of kept p) v
given m kept (symmetry p card) = sorted (map (act card) (line_of kept p))

-- no variable stands in C with both signs
abbrev pub tautology_free : List ℕ → Bool
tautology_free C = every (λ l. not (has (neg l) C)) C

-- v is a variable of the formula
abbrev pub variable : Meaning → ℕ → Bool
variable m v = nat_le 1 v && nat_le v m.n

-- P and Q may be resolved upon v
abbrev pub resolvable : Meaning → List ℕ → List ℕ → ℕ → Bool
resolvable m P Q v = quantifier_of m v == 1 && (has (2 * v) P && has (2 * v + 1) Q)

-- every existential literal of P has a smaller level than v
abbrev pub innermost : Meaning → List ℕ → ℕ → Bool
innermost m P v = every (λ l. not (quantifier_of m (var l) == 1) || nat_lt (level_of m (var l)) (level_of m v)) P

-- P may be reduced by v
abbrev pub reducible : Meaning → List ℕ → ℕ → Bool
reducible m P v = quantifier_of m v == 2 && ((has (2 * v) P || has (2 * v + 1) P) && innermost m P v)

-- at each place v of a card, the image x: it has the level of v, and is v itself where v is no variable
abbrev pub admits : Meaning → ℕ → ℕ → Bool
admits m v x = cond (nat_le v m.n) (level_of m (var x) == level_of m v) (x == 2 * v)

-- the card fixes what is no variable, and keeps levels
abbrev pub admissible : Meaning → Card → Bool
admissible m card = every_place (admits m) 0 card.images

-- the two lists hold the same literals
abbrev pub same : List ℕ → List ℕ → Bool
same C D = every (λ l. has l D) C && every (λ l. has l C) D

-- the image of every clause is among the clauses
abbrev pub carries : Meaning → Card → Bool
carries m card = every (λ C. some_of (same (map (act card) C)) m.clauses) m.clauses

-- the clause has no literal
abbrev pub is_empty : List ℕ → Bool
is_empty [] = true
is_empty (l ∷ C) = false

-- the empty clause has been kept
abbrev pub closed : List (List ℕ) → Bool
closed kept = some_of is_empty kept

-- there is room for C
abbrev pub room : Store → List (List ℕ) → List ℕ → Bool
room S kept C = nat_lt (length kept) 8192 && nat_le (weights S kept + weight S C) S.capacity

-- the tests of each rule, in the order of its conditions
abbrev pub rule_tests : Meaning → List (List ℕ) → Line → List (ℕ × Bool)
rule_tests m kept (axiom_line j) = (32, nat_lt j (length m.clauses)) ∷ (33, tautology_free (clause_of m j)) ∷ []
rule_tests m kept (resolution p q v) =
    (32, nat_lt p (length kept)) ∷
    (32, nat_lt q (length kept)) ∷
    (32, variable m v) ∷
    (34, resolvable m (line_of kept p) (line_of kept q) v) ∷
    (33, tautology_free (given m kept (resolution p q v))) ∷
    []
rule_tests m kept (reduction p v) = (32, nat_lt p (length kept)) ∷ (32, variable m v) ∷ (35, reducible m (line_of kept p) v) ∷ []
rule_tests m kept (symmetry p card) = (32, nat_lt p (length kept)) ∷ (36, admissible m card) ∷ (37, carries m card) ∷ []

-- all tests, in the order of the checks
abbrev pub tests : Store → Meaning → List (List ℕ) → Line → List (ℕ × Bool)
tests S m kept line = (31, not (closed kept)) ∷ (rule_tests m kept line ++ ((38, room S kept (given m kept line)) ∷ []))

-- the first test that fails refuses
abbrev pub first_failing : List (ℕ × Bool) → Answer → Answer
first_failing [] a = a
first_failing ((k, b) ∷ ts) a = cond b (first_failing ts a) (refused k)

-- what the claim of a line is answered, after the clauses kept
unfoldable pub claim : Store → Meaning → List (List ℕ) → Line → Answer
claim S m kept line = first_failing (tests S m kept line) (keeps (given m kept line))
