-- How a reason why a card is no symmetry is printed.
use Rattle.std.specs.Prelude.{ℕ, List, codes}
use Rattle.symmetry.specs.declared.fault.SymmetryFault.{SymmetryFault}
use Rattle.symmetry.specs.declared.fault.SymmetryFault.TheVariants.{Level, Asymmetry}

-- its word
abbrev pub symmetry_word : SymmetryFault → List ℕ
symmetry_word Level = codes "level"
symmetry_word Asymmetry = codes "asymmetry"
