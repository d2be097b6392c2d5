use Rattle.laws.proofs.Calls.{nothing_lost}
use Rattle.laws.proofs.nothing_is_lost.Goals as goal

pub returns : goal.returns
returns c = nothing_lost
