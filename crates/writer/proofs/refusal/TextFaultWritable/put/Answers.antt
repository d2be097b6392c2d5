use Rattle.std.proofs.Common.{decimal, ap}
use Rattle.writer.specs.Written.{refusal_line}
use Rattle.writer.proofs.Pens.{put_then, put_as}
use Rattle.writer.proofs.refusal.TextFaultWritable.put.Goals as goal

pub returns-clause-puts : goal.returns-clause-puts
unfolding refusal_line
returns-clause-puts c =
    put_then c.put_all.ensures
    (put_then (put_as (ap decimal c.rule_number.ensures) c.put_number.ensures)
    (put_then c.put_all-2.ensures (put_then c.put_number-2.ensures c.put_all-3.ensures)))
