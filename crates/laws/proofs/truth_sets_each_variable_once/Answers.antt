use Rattle.laws.proofs.Order.{order_right}
use Rattle.laws.proofs.truth_sets_each_variable_once.Goals as goal

pub returns : goal.returns
returns c = order_right
