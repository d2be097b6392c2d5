-- What reading a text and writing its formula, changed or as it is, answers, and what the buffer and all cells hold then.
use Rattle.std.specs.Prelude.{◌≡◌, ℕ, List, [], Result}
use Rattle.calculus.specs.Meaning.{Meaning}
use Rattle.grammar.specs.Lawful.{Sizes}
use Rattle.grammar.specs.Outcome.{Outcome, formula, refused, ComesTo}
use Rattle.reading.specs.Laid.{padded, all_codes, running}
use Rattle.writer.specs.declared.fault.WriteFault.{WriteFault}
use Rattle.writer.specs.Into.{answer, filled, RoomFor}
use Rattle.writer.specs.Short.{longest}
use Rattle.writer.specs.Written.{written, refusal_line}

-- what is written of a text: its formula, changed, or the line that reports its first fault
abbrev pub said : (Meaning → Meaning) → Outcome → List ℕ
said change (formula m) = written (change m)
said change (refused rule at) = refusal_line (record { rule = rule; byte = at })

-- the codes in the literal cells: those of all clauses; none after a fault
abbrev pub codes_of : Outcome → List ℕ
codes_of (formula m) = all_codes m.clauses
codes_of (refused rule at) = []

-- the counts in the end cells: the running counts of the clauses; none after a fault
abbrev pub counts_of : Outcome → List ℕ
counts_of (formula m) = running 0 m.clauses
counts_of (refused rule at) = []

-- the text comes to the outcome, and by a theorem of the grammar to no other; the answer, the buffer behind it, and the cells, which hold
-- the formula as it was read, where zeros fill what is left
pub record Said (change : Meaning → Meaning) (S : Sizes) (text : List ℕ) (r : Result ℕ WriteFault) (out out' literals ends : List ℕ) : Type 0 where
  pub outcome : Outcome
  pub comes : ComesTo S text outcome
  pub answers : r ≡ answer (said change outcome) out
  pub holds : out' ≡ filled (said change outcome) out
  pub codes : literals ≡ padded S.cells (codes_of outcome)
  pub counts : ends ≡ padded S.ends (counts_of outcome)

-- the formula of a tidied text is written as it is
abbrev pub Tidied : Sizes → List ℕ → Result ℕ WriteFault → List ℕ → List ℕ → List ℕ → List ℕ → Type 0
Tidied = Said (λ m. m)

-- a buffer as long as a text can be is long enough; what is written lies within the buffer
abbrev pub Room : List ℕ → Result ℕ WriteFault → Type 0
Room = RoomFor longest
