use Rattle.writer.proofs.Pens.{put_then}
use Rattle.reports.specs.Lines.{refuted_line}
use Rattle.reports.proofs.putting.put_refuted.Goals as goal

pub returns : goal.returns
unfolding refuted_line
returns c =
    put_then c.put_all.ensures (put_then c.put_number.ensures (put_then c.put_all-2.ensures (put_then c.put_number-2.ensures c.put_feed.ensures)))
