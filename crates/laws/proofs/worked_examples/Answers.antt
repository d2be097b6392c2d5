use Rattle.laws.proofs.Worked.{works}
use Rattle.laws.proofs.worked_examples.Goals as goal

pub returns : goal.returns
returns c = works
