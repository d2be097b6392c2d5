use Rattle.words.proofs.Causal.{words_behind_never_matter}
use Rattle.words.proofs.words_behind_never_matter.Goals as goal

pub returns : goal.returns
returns c = words_behind_never_matter
