use Rattle.grammar.proofs.Walks.{words_that_follow}
use Rattle.grammar.proofs.a_word_may_follow_where_the_longer_draft_is_lawful.Goals as goal

pub returns : goal.returns
returns c = words_that_follow
