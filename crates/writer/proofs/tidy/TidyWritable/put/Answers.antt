use Rattle.std.proofs.Common.{decimal, ap}
use Rattle.writer.specs.Written.{written}
use Rattle.writer.proofs.Pens.{put_then, put_as}
use Rattle.writer.proofs.tidy.TidyWritable.put.Goals as goal

pub returns-clause-puts : goal.returns-clause-puts
unfolding written
returns-clause-puts g c =
    let clauses = put_then c.put_space.ensures (put_then (put_as (ap decimal c.clause_count.ensures) c.put_number-2.ensures) c.put.ensures) in
    let header = put_then c.put_all.ensures (put_then (put_as (ap decimal c.variable_count.ensures) c.put_number.ensures) clauses) in
    put_then header (put_then c.put_blocks.ensures c.put_clauses.ensures)
