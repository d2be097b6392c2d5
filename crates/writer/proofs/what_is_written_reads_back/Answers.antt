use Rattle.writer.proofs.Roundtrip.{written_reads_back}
use Rattle.writer.proofs.what_is_written_reads_back.Goals as goal

pub returns : goal.returns
returns c = written_reads_back
