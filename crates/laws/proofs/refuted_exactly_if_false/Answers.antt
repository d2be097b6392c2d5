use Rattle.laws.proofs.Calls.{refuted_exactly_if_false}
use Rattle.laws.proofs.refuted_exactly_if_false.Goals as goal

pub returns : goal.returns
returns c = refuted_exactly_if_false
