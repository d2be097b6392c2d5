use Rattle.std.proofs.Common.{decimal, ap}
use Rattle.writer.proofs.Pens.{put_then, put_as}
use Rattle.writer.proofs.clauses.put_literal.Goals as goal

pub returns : goal.returns
returns c = put_then c.put_sign.ensures (put_then (put_as (ap decimal c.from.ensures) c.put_number.ensures) c.put_space.ensures)
