-- How a refusal is printed.
use Rattle.std.specs.Prelude.{ℕ, List, codes}
use Rattle.case.specs.declared.refusal.Refusal.{Refusal}
use Rattle.case.specs.declared.refusal.Refusal.TheVariants.{Closed, Absent, Tautology, Pivot, Reduction, Level, Asymmetry, Full}

-- its word
abbrev pub refusal_word : Refusal → List ℕ
refusal_word Closed = codes "closed"
refusal_word Absent = codes "absent"
refusal_word Tautology = codes "tautology"
refusal_word Pivot = codes "pivot"
refusal_word Reduction = codes "reduction"
refusal_word Level = codes "level"
refusal_word Asymmetry = codes "asymmetry"
refusal_word Full = codes "full"
