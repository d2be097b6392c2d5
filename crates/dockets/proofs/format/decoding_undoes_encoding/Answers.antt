use Rattle.dockets.proofs.ReadsBack.{decoding}
use Rattle.dockets.proofs.format.decoding_undoes_encoding.Goals as goal

pub returns : goal.returns
returns c = decoding
