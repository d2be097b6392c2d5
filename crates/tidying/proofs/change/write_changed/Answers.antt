use Rattle.std.proofs.Common.{arith}
use Rattle.writer.specs.Short.{longest}
use Rattle.writer.specs.Written.{refusal_line}
use Rattle.writer.proofs.Buffers.{has_room}
use Rattle.writer.proofs.Lengths.{refusal_short}
use Rattle.tidying.proofs.change.write_changed.Goals as goal

pub returns-in-Err-clause-room : goal.returns-in-Err-clause-room
returns-in-Err-clause-room g c =
    has_room longest (refusal_line c.in-Err.fault) c.args.out.now (omega (arith, refusal_short c.in-Err.fault (omega arith))) c.write_refusal.ensures.answers
