use Rattle.writer.proofs.Pens.{put_then}
use Rattle.reports.specs.Lines.{refused_line}
use Rattle.reports.proofs.putting.put_refused.Goals as goal

pub returns : goal.returns
unfolding refused_line
returns c =
    put_then c.put_all.ensures
    (put_then c.put_number.ensures
    (put_then c.put_all-2.ensures
    (put_then c.put_all-3.ensures
    (put_then c.put_all-4.ensures
    (put_then c.put_number-2.ensures (put_then c.put_all-5.ensures (put_then c.put_number-3.ensures c.put_feed.ensures)))))))
