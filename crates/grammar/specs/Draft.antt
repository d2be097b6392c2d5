-- What the words of a formula text come to, read up to some word, and how such a draft is spelled.
use Rattle.std.specs.Prelude.{ℕ, suc, ◌+◌, ◌/◌, ◌%◌, cond, List, [], ◌∷◌, ◌++◌, map, reverse, length, ◌==◌}
use Rattle.std.specs.List.{range_with_len}
use Rattle.words.specs.declared.token.Token.{Token}
use Rattle.words.specs.declared.token.Token.TheVariants.{Problem, Cnf, Exists, Forall, Number, Negative}
use Rattle.calculus.specs.Sets.{has}
use Rattle.calculus.specs.Meaning.{Meaning}

-- a block of the prefix: its quantifier, 1 or 2, and its variables, the latest first
pub record Block : Type 0 where
  pub quantifier : ℕ
  pub variables : List ℕ

-- A text read up to some word. Blocks, clauses and the literals of a clause stand the latest first.
pub data Draft : Type 0 where
  -- no word; p; p cnf; p cnf n
  nothing : Draft
  problem : Draft
  format : Draft
  sized : ℕ → Draft
  -- p cnf n m, the blocks that have ended, and one that has not
  binding : ℕ → ℕ → List Block → Block → Draft
  -- p cnf n m, the blocks, the clauses that have ended, and the literals behind them
  matrix : ℕ → ℕ → List Block → List (List ℕ) → List ℕ → Draft

-- the words of each element, the latest element first in the list and last in the text
abbrev pub spelled : {X : Type 0} → (X → List Token) → List X → List Token
spelled f [] = []
spelled f (x ∷ xs) = spelled f xs ++ f x

-- e for an existential block, a for a universal one
abbrev pub letter : ℕ → Token
letter q = cond (q == 1) Exists Forall

-- a literal is its variable's number, below zero for a negation
abbrev pub literal_word : ℕ → Token
literal_word l = cond (l % 2 == 0) (Number (l / 2)) (Negative (l / 2))

-- a block that has not ended: its letter and its variables
abbrev pub block_words : Block → List Token
block_words b = letter b.quantifier ∷ spelled (λ v. Number v ∷ []) b.variables

-- a 0 ends a block
abbrev pub ended_block : Block → List Token
ended_block b = block_words b ++ (Number 0 ∷ [])

abbrev pub clause_words : List ℕ → List Token
clause_words C = spelled (λ l. literal_word l ∷ []) C

-- a 0 ends a clause
abbrev pub ended_clause : List ℕ → List Token
ended_clause C = clause_words C ++ (Number 0 ∷ [])

abbrev pub header_words : ℕ → ℕ → List Token
header_words n m = Problem ∷ Cnf ∷ Number n ∷ Number m ∷ []

abbrev pub prefix_words : ℕ → ℕ → List Block → List Token
prefix_words n m bs = header_words n m ++ spelled ended_block bs

-- the words of a draft
abbrev pub spell : Draft → List Token
spell nothing = []
spell problem = Problem ∷ []
spell format = Problem ∷ Cnf ∷ []
spell (sized n) = Problem ∷ Cnf ∷ Number n ∷ []
spell (binding n m bs b) = prefix_words n m bs ++ block_words b
spell (matrix n m bs Cs C) = (prefix_words n m bs ++ spelled ended_clause Cs) ++ clause_words C

-- the level that the blocks give v: the number of its block, counted from the outermost; 0 where no block binds it
abbrev pub level_in : List Block → ℕ → ℕ
level_in [] v = 0
level_in (b ∷ bs) v = cond (has v b.variables) (suc (length bs)) (level_in bs v)

-- the quantifier of v's block; 0 where no block binds it
abbrev pub quantifier_in : List Block → ℕ → ℕ
quantifier_in [] v = 0
quantifier_in (b ∷ bs) v = cond (has v b.variables) b.quantifier (quantifier_in bs v)

-- the formula of n variables with these blocks and clauses, the latest first
abbrev pub formula_of : ℕ → List Block → List (List ℕ) → Meaning
formula_of n bs Cs = record {
  n = n;
  levels = map (level_in bs) (range_with_len 0 (n + 1));
  quantifiers = map (quantifier_in bs) (range_with_len 0 (n + 1));
  clauses = reverse (map reverse Cs);
}
