use Rattle.laws.proofs.Calls.{reached_right}
use Rattle.laws.proofs.every_state_reached_is_right.Goals as goal

pub returns : goal.returns
returns c = reached_right
