use Rattle.std.proofs.Common.{[], arith}
use Rattle.writer.specs.Written.{clause_line}
use Rattle.writer.proofs.Pens.{put_then, put_more, put_every}
use Rattle.writer.proofs.clauses.put_clauses.Goals as goal

pub loop-j-preserved : goal.loop-j-preserved
loop-j-preserved g c =
    put_more clause_line (g.F.Formula.meaning c.args.f.now).clauses c.loop-j.j [] (omega arith) c.loop-j.invariant (put_then c.put_literals.ensures c.put_end.ensures)

pub returns : goal.returns
returns g c =
    put_every clause_line (g.F.Formula.meaning c.args.f.now).clauses c.loop-j.j (omega arith) c.loop-j.invariant
