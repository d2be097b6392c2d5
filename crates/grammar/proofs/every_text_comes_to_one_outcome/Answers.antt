use Rattle.grammar.proofs.Outcomes.{one_outcome}
use Rattle.grammar.proofs.every_text_comes_to_one_outcome.Goals as goal

pub returns : goal.returns
returns c = one_outcome
