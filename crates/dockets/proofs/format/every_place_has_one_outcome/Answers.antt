use Rattle.dockets.proofs.Outcomes.{outcomes}
use Rattle.dockets.proofs.format.every_place_has_one_outcome.Goals as goal

pub returns : goal.returns
returns c = outcomes
