use Rattle.laws.proofs.Lines.{derivable_fine, plainly}
use Rattle.laws.proofs.symmetry_adds_nothing.Goals as goal

pub returns : goal.returns
returns c = λ m formed C d. plainly m formed C (derivable_fine m formed C d)
