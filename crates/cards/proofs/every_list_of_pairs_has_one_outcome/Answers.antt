use Rattle.cards.proofs.Outcomes.{outcomes}
use Rattle.cards.proofs.every_list_of_pairs_has_one_outcome.Goals as goal

pub returns : goal.returns
returns c = outcomes
