use Rattle.laws.proofs.Completeness.{complete}
use Rattle.laws.proofs.what_is_false_is_refuted.Goals as goal

pub returns : goal.returns
returns c = complete
