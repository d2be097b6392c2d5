use Rattle.laws.proofs.Replies.{one_outcome}
use Rattle.laws.proofs.every_list_of_calls_has_one_outcome.Goals as goal

pub returns : goal.returns
returns c = one_outcome
