use Rattle.writer.proofs.Pens.{put_then}
use Rattle.reports.specs.Lines.{open_line}
use Rattle.reports.proofs.putting.put_open.Goals as goal

pub returns : goal.returns
unfolding open_line
returns c = put_then c.put_all.ensures (put_then c.put_number.ensures c.put_feed.ensures)
