use Rattle.laws.proofs.Lines.{derivable_fine}
use Rattle.laws.proofs.Completeness.{proper_clause}
use Rattle.laws.proofs.derived_clauses_are_proper.Goals as goal

pub returns : goal.returns
returns c = λ m formed C d. proper_clause m formed C (derivable_fine m formed C d)
