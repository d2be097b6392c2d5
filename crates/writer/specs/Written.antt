-- The tidy text of a formula, and the line that reports a fault of a text.
use Rattle.std.specs.Prelude.{ℕ, ◌/◌, ◌%◌, max, cond, List, [], ◌∷◌, ◌++◌, length, codes, decimal, ◌==◌, slice_index}
use Rattle.std.specs.List.{range_with_len, flat_map}
use Rattle.calculus.specs.Meaning.{Meaning, quantifier_of}
use Rattle.calculus.specs.Truth.{at_level}
use Rattle.grammar.specs.declared.rule.TextFault.{TextFault}
use Rattle.grammar.specs.Fault.{number}

-- p cnf n m
abbrev pub header_line : Meaning → List ℕ
header_line m = codes "p cnf " ++ (decimal m.n ++ (32 ∷ (decimal (length m.clauses) ++ (10 ∷ []))))

-- e for an existential level, a for a universal one
abbrev pub letter_byte : ℕ → ℕ
letter_byte q = cond (q == 1) 101 97

-- a variable behind a space
abbrev pub variable_text : ℕ → List ℕ
variable_text v = 32 ∷ decimal v

-- level k: its letter, its variables in ascending order, and 0
abbrev pub block_line : Meaning → ℕ → List ℕ
block_line m k =
    letter_byte (quantifier_of m (slice_index (at_level m k) 0)) ∷ (flat_map variable_text (at_level m k) ++ codes " 0\n")

-- the number of the levels
abbrev pub greatest : List ℕ → ℕ
greatest [] = 0
greatest (x ∷ xs) = max x (greatest xs)

-- a minus for a negation
abbrev pub sign : ℕ → List ℕ
sign l = cond (l % 2 == 0) [] (45 ∷ [])

-- a literal is its variable's number behind its sign; a space follows
abbrev pub literal_text : ℕ → List ℕ
literal_text l = sign l ++ (decimal (l / 2) ++ (32 ∷ []))

-- a clause: its literals, and 0
abbrev pub clause_line : List ℕ → List ℕ
clause_line C = flat_map literal_text C ++ codes "0\n"

-- the text of a formula: the header, a line for each level, a line for each clause
unfoldable pub written : Meaning → List ℕ
written m =
    header_line m ++ (flat_map (block_line m) (range_with_len 1 (greatest m.levels)) ++ flat_map clause_line m.clauses)

-- the line that reports the first fault of a text
unfoldable pub refusal_line : TextFault → List ℕ
refusal_line f = codes "refused " ++ (decimal (number f.rule) ++ (codes " layer text byte " ++ (decimal f.byte ++ codes " line 0\n")))
