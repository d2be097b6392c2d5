use Rattle.laws.proofs.Calls.{verdict_right}
use Rattle.laws.proofs.every_verdict_is_right.Goals as goal

pub returns : goal.returns
returns c = verdict_right
