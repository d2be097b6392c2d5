use Rattle.writer.proofs.Lengths.{written_short}
use Rattle.writer.proofs.a_tidy_text_is_short.Goals as goal

pub returns : goal.returns
returns c = written_short
