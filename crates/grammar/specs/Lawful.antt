-- Which drafts break no rule so far.
use Rattle.std.specs.Prelude.{◌≡◌, ℕ, ◌+◌, ◌<◌, ◌≤◌, List, [], ◌∷◌, length, sum_by}
use Rattle.std.specs.List.{AllByRecursion}
use Rattle.calculus.specs.Meaning.{Variable, Clause}
use Rattle.grammar.specs.Draft.{Block, Draft, nothing, problem, format, sized, binding, matrix, level_in}

-- the memory given: how many literal cells and end cells
pub record Sizes : Type 0 where
  pub cells : ℕ
  pub ends : ℕ

abbrev pub Header : Sizes → ℕ → ℕ → Type 0
Header S n m = (1 ≤ n) × (n ≤ 512) × (m ≤ 2048) × (m ≤ S.ends)

-- the quantifier of the latest block; 0 where there is none
abbrev pub latest : List Block → ℕ
latest [] = 0
latest (b ∷ bs) = b.quantifier

-- each variable is one of 1 to n, and no block and no earlier place of its own block binds it
abbrev pub Binds : ℕ → List Block → ℕ → List ℕ → Type 0
Binds n bs q [] = Unit {0}
Binds n bs q (v ∷ vs) = Binds n bs q vs × Variable n v × (level_in (record { quantifier = q; variables = vs } ∷ bs) v ≡ 0)

-- a block may follow the blocks bs: it has another quantifier than the latest, and binds its variables anew
pub record Opens (n : ℕ) (bs : List Block) (b : Block) : Type 0 where
  pub low : 1 ≤ b.quantifier
  pub high : b.quantifier ≤ 2
  pub turns : b.quantifier ≡ latest bs → ⊥
  pub binds : Binds n bs b.quantifier b.variables

-- blocks that have ended: none is empty
abbrev pub Blocks : ℕ → List Block → Type 0
Blocks n [] = Unit {0}
Blocks n (b ∷ bs) = Blocks n bs × Opens n bs b × (1 ≤ length b.variables)

-- every variable is bound
abbrev pub AllBound : ℕ → List Block → Type 0
AllBound n bs = (v : ℕ) → Variable n v → 1 ≤ level_in bs v

-- how many literals stand in the ended clauses Cs and behind them
abbrev pub literal_count : List (List ℕ) → List ℕ → ℕ
literal_count Cs C = sum_by length Cs + length C

-- some word stands behind the blocks
abbrev pub Begun : List (List ℕ) → List ℕ → Type 0
Begun Cs C = 1 ≤ length Cs + length C

-- at most m clauses within the limits and the cells; before the first of their words every variable is bound
pub record Clauses (S : Sizes) (n m : ℕ) (bs : List Block) (Cs : List (List ℕ)) (C : List ℕ) : Type 0 where
  pub bound : Begun Cs C → AllBound n bs
  pub ended : AllByRecursion (Clause n) Cs
  pub open_clause : Clause n C
  pub few : length Cs ≤ m
  pub one_more : 1 ≤ length C → length Cs < m
  pub short : literal_count Cs C ≤ 16384
  pub fits : literal_count Cs C ≤ S.cells

-- a draft breaks no rule
abbrev pub Lawful : Sizes → Draft → Type 0
Lawful S nothing = Unit {0}
Lawful S problem = Unit {0}
Lawful S format = Unit {0}
Lawful S (sized n) = (1 ≤ n) × (n ≤ 512)
Lawful S (binding n m bs b) = Header S n m × Blocks n bs × Opens n bs b
Lawful S (matrix n m bs Cs C) = Header S n m × Blocks n bs × Clauses S n m bs Cs C
