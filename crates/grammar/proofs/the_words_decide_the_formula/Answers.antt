use Rattle.grammar.proofs.Outcomes.{words_decide}
use Rattle.grammar.proofs.the_words_decide_the_formula.Goals as goal

pub returns : goal.returns
returns c = words_decide
