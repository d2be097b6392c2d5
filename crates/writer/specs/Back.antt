-- When a text that was written reads back as the formula that it was written from.
use Rattle.std.specs.Prelude.{ℕ, ◌≤◌, List, length, take, Ok, Err, sum_by, Result}
use Rattle.calculus.specs.Meaning.{Meaning, Formed}
use Rattle.grammar.specs.Lawful.{Sizes}
use Rattle.grammar.specs.Outcome.{Reads}
use Rattle.writer.specs.declared.fault.WriteFault.{WriteFault}
use Rattle.writer.specs.Written.{written}

-- how many literals the clauses list in all
abbrev pub literal_total : Meaning → ℕ
literal_total m = sum_by length m.clauses

-- no text may list more than 16,384 literals
abbrev pub FitsLimits : Meaning → Type 0
FitsLimits m = literal_total m ≤ 16384

-- a cell for every literal, and an end cell for every clause
abbrev pub HasCells : Sizes → Meaning → Type 0
HasCells S m = (literal_total m ≤ S.cells) × (length m.clauses ≤ S.ends)

-- the text reads as m, with every size of memory that holds m
abbrev pub ReadsAs : List ℕ → Meaning → Type 0
ReadsAs text m = FitsLimits m → (S : Sizes) → HasCells S m → Reads S text m

-- where k bytes were written, they read as m
abbrev pub ReadsBack : Result ℕ WriteFault → List ℕ → Meaning → Type 0
ReadsBack (Ok k) buffer m = ReadsAs (take k buffer) m
ReadsBack (Err e) buffer m = Unit {0}

-- what is written of a formula reads back as that formula
abbrev pub WrittenReadsBack : Type 0
WrittenReadsBack = (m : Meaning) → Formed m → ReadsAs (written m) m
