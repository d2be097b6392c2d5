-- The numbers of refusals, and the refusals that faults of the layers below become.
use Rattle.shelf.specs.declared.fault.ShelfFault.{ShelfFault}
use Rattle.shelf.specs.declared.fault.ShelfFault.TheVariants.{Absent as NoLine, Full as NoRoom}
use Rattle.symmetry.specs.declared.fault.SymmetryFault.{SymmetryFault}
use Rattle.symmetry.specs.declared.fault.SymmetryFault.TheVariants.{Level as MovesLevels, Asymmetry as MovesClauses}
use Rattle.case.specs.declared.refusal.Refusal.{Refusal}
use Rattle.case.specs.declared.refusal.Refusal.TheVariants.{Absent, Level, Asymmetry, Full}

-- the refusal of a claim whose line is absent, or for whose clause there is no room
abbrev pub of_shelf : ShelfFault → Refusal
of_shelf NoLine = Absent
of_shelf NoRoom = Full

-- the refusal of a claim whose card is no symmetry
abbrev pub of_symmetry : SymmetryFault → Refusal
of_symmetry MovesLevels = Level
of_symmetry MovesClauses = Asymmetry
