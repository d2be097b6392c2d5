use Rattle.examining.proofs.Once.{ends_once}
use Rattle.examining.proofs.examining_ends_once.Goals as goal

pub returns : goal.returns
returns c = ends_once
