-- A state and its cells stand for a draft.
use Rattle.std.specs.Prelude.{◌≡◌, ℕ, zero, suc, Bool, false, ◌&&◌, ◌||◌, List, [], ◌∷◌, ◌++◌, map, reverse, length, replicate, Some, None, Ok, Err, Option, Result, ◌==◌, nat_le, slice_index}
use Rattle.grammar.specs.declared.rule.Rule.{Rule}
use Rattle.grammar.specs.Draft.{Block, Draft, nothing, problem, format, sized, binding, matrix, level_in, quantifier_in}
use Rattle.grammar.specs.Lawful.{Sizes, Lawful, latest, literal_count}
use Rattle.grammar.specs.Next.{Next, after}
use Rattle.grammar.specs.Fault.{fault, unbegun, unbound}
use Rattle.reading.specs.declared.state.Stage.{Stage}
use Rattle.reading.specs.declared.state.Stage.TheVariants.{Start, Problem, Format, Sized, Block as InBlock, Matrix}
use Rattle.reading.specs.declared.state.State.{State}
use Rattle.reading.specs.Bindings.{levels_of, quantifiers_of, no_binding}
use Rattle.reading.specs.Laid.{padded, all_codes, running}

-- the parts of a draft; at the stage of a block, whether it has no variable yet
abbrev pub stage_of : Draft → Stage
stage_of nothing = Start
stage_of problem = Problem
stage_of format = Format
stage_of (sized n) = Sized
stage_of (binding n m bs b) = InBlock (length b.variables == 0)
stage_of (matrix n m bs Cs C) = Matrix

abbrev pub n_of : Draft → ℕ
n_of nothing = 0
n_of problem = 0
n_of format = 0
n_of (sized n) = n
n_of (binding n m bs b) = n
n_of (matrix n m bs Cs C) = n

abbrev pub m_of : Draft → ℕ
m_of nothing = 0
m_of problem = 0
m_of format = 0
m_of (sized n) = 0
m_of (binding n m bs b) = m
m_of (matrix n m bs Cs C) = m

-- the blocks that have begun
abbrev pub blocks_of : Draft → List Block
blocks_of nothing = []
blocks_of problem = []
blocks_of format = []
blocks_of (sized n) = []
blocks_of (binding n m bs b) = b ∷ bs
blocks_of (matrix n m bs Cs C) = bs

abbrev pub clauses_of : Draft → List (List ℕ)
clauses_of nothing = []
clauses_of problem = []
clauses_of format = []
clauses_of (sized n) = []
clauses_of (binding n m bs b) = []
clauses_of (matrix n m bs Cs C) = Cs

-- the literals behind the ended clauses
abbrev pub open_of : Draft → List ℕ
open_of nothing = []
open_of problem = []
open_of format = []
open_of (sized n) = []
open_of (binding n m bs b) = []
open_of (matrix n m bs Cs C) = C

-- clauses as they stand in the text, the first one first
abbrev pub in_order : List (List ℕ) → List (List ℕ)
in_order Cs = reverse (map reverse Cs)

pub record Stands (d : Draft) (s : State) (literals ends : List ℕ) : Type 0 where
  pub stage : s.stage ≡ stage_of d
  pub n : s.n ≡ n_of d
  pub m : s.m ≡ m_of d
  pub levels : (v : ℕ) → slice_index (levels_of s.bindings) v ≡ level_in (blocks_of d) v
  pub quantifiers : (v : ℕ) → slice_index (quantifiers_of s.bindings) v ≡ quantifier_in (blocks_of d) v
  pub blocks : s.latest.level ≡ length (blocks_of d)
  pub latest : s.latest.quantifier ≡ latest (blocks_of d)
  pub clauses : s.clauses ≡ length (clauses_of d)
  pub count : s.literals ≡ literal_count (clauses_of d) (open_of d)
  pub open_count : s.tail ≡ length (open_of d)
  pub codes_laid : literals ≡ padded (length literals) (all_codes (in_order (clauses_of d)) ++ reverse (open_of d))
  pub ends_laid : ends ≡ padded (length ends) (running 0 (in_order (clauses_of d)))

-- the state in which no word has come
pub record Fresh (s : State) : Type 0 where
  pub stage : s.stage ≡ Start
  pub n : s.n ≡ 0
  pub m : s.m ≡ 0
  pub unbound : s.bindings ≡ replicate 513 no_binding
  pub latest : s.latest ≡ no_binding
  pub clauses : s.clauses ≡ 0
  pub count : s.literals ≡ 0
  pub open_count : s.tail ≡ 0

-- some variable of 1 to v has level 0 in the table
abbrev pub gap : List ℕ → ℕ → Bool
gap levels zero = false
gap levels (suc v) = slice_index levels (suc v) == 0 || gap levels v

-- no word of a clause has come, and some variable is unbound
abbrev pub early : Draft → Bool
early d = unbegun (clauses_of d) (open_of d) && unbound (blocks_of d) (n_of d)

-- the clause, all clauses or the cells have no place for a literal more
abbrev pub full : Sizes → Draft → Bool
full S d =
    nat_le 1024 (length (open_of d)) ||
    (nat_le 16384 (literal_count (clauses_of d) (open_of d)) || nat_le S.cells (literal_count (clauses_of d) (open_of d)))

abbrev pub sizes : List ℕ → List ℕ → Sizes
sizes literals ends = record { cells = length literals; ends = length ends }

-- one word more: granted, and then the state stands for the draft with it; or refused by the rule that it breaks
abbrev pub Stepped : Sizes → Draft → Next → Result (Unit {0}) Rule → State → List ℕ → List ℕ → Type 0
Stepped S d t (Ok u) s literals ends = (fault S d t ≡ None) × Stands (after d t) s literals ends
Stepped S d t (Err rule) s literals ends = fault S d t ≡ Some rule

-- the next word t takes the state s to s' and answers r, whatever the cells, which stay
abbrev pub Steps : State → Next → Result (Unit {0}) Rule → State → Type 0
Steps s t r s' = (d : Draft) (literals ends : List ℕ) → Lawful (sizes literals ends) d → Stands d s literals ends → Stepped (sizes literals ends) d t r s' literals ends

-- the same with the cells before and after
abbrev pub StepsIn : State → List ℕ → List ℕ → Next → Result (Unit {0}) Rule → State → List ℕ → List ℕ → Type 0
StepsIn s literals ends t r s' literals' ends' =
    (d : Draft) → Lawful (sizes literals ends) d → Stands d s literals ends → Stepped (sizes literals ends) d t r s' literals' ends'

-- at the end of the text a broken rule, or none
abbrev pub ended : Option Rule → Result (Unit {0}) Rule
ended None = Ok tt
ended (Some rule) = Err rule
