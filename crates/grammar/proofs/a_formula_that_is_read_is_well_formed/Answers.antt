use Rattle.grammar.proofs.Formedness.{reads_formed}
use Rattle.grammar.proofs.a_formula_that_is_read_is_well_formed.Goals as goal

pub returns : goal.returns
returns c = reads_formed
