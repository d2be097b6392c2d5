use Rattle.grammar.proofs.Behind.{behind_never_matters}
use Rattle.grammar.proofs.what_stands_behind_a_fault_never_matters.Goals as goal

pub returns : goal.returns
returns c = behind_never_matters
