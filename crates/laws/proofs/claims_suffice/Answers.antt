use Rattle.laws.proofs.Calls.{claims_suffice}
use Rattle.laws.proofs.claims_suffice.Goals as goal

pub returns : goal.returns
returns c = claims_suffice
