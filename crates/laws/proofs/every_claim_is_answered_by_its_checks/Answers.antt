use Rattle.laws.proofs.Calls.{claims_answered}
use Rattle.laws.proofs.every_claim_is_answered_by_its_checks.Goals as goal

pub returns : goal.returns
returns c = claims_answered
