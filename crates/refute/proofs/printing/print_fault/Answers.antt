use Rattle.std.proofs.Common.{arith}
use Rattle.refute.proofs.Reports.{enough}
use Rattle.refute.proofs.printing.print_fault.Goals as goal

pub unwrap-len-requires : goal.unwrap-len-requires
unwrap-len-requires c = rw c.write_refusal.ensures.answers (enough c.args.fault (omega arith))
