-- Why a formula has no image under a card.
use Rattle.std.specs.Prelude.{ℕ}
use Rattle.symmetry.specs.Faults.{symmetry_number}
use Rattle.symmetry.specs.declared.fault.SymmetryFault.TheVariants.{Level}

-- the number under which an inadmissible card is reported
abbrev pub inadmissible_number : ℕ
inadmissible_number = symmetry_number Level
