use Rattle.laws.proofs.Deciding.{decided}
use Rattle.laws.proofs.the_checks_decide_the_calculus.Goals as goal

pub returns : goal.returns
returns c = decided
