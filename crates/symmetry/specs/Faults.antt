-- Why a card is no symmetry.
use Rattle.std.specs.Prelude.{ℕ}
use Rattle.calculus.specs.Meaning.{Meaning}
use Rattle.laws.specs.Cards.{Card, Admissible, Carries}
use Rattle.symmetry.specs.declared.fault.SymmetryFault.{SymmetryFault}
use Rattle.symmetry.specs.declared.fault.SymmetryFault.TheVariants.{Level, Asymmetry}

-- the number under which a fault is reported
abbrev pub symmetry_number : SymmetryFault → ℕ
symmetry_number Level = 36
symmetry_number Asymmetry = 37

-- the first reason why the card is no symmetry: it is not admissible; or it is, and does not take clauses to clauses
abbrev pub Fault : Meaning → Card → SymmetryFault → Type 0
Fault m card Level = Admissible m card → ⊥
Fault m card Asymmetry = Admissible m card × (Carries m card → ⊥)
