use Rattle.laws.proofs.Inverse.{undone}
use Rattle.laws.proofs.every_card_is_undone.Goals as goal

pub returns : goal.returns
returns c = undone
