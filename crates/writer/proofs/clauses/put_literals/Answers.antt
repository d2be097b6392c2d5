use Rattle.std.proofs.Common.{ap, arith}
use Rattle.calculus.specs.Meaning.{clause_of}
use Rattle.writer.specs.Written.{literal_text}
use Rattle.writer.proofs.Pens.{put_as, put_more, put_every}
use Rattle.writer.proofs.clauses.put_literals.Goals as goal

pub loop-i-preserved : goal.loop-i-preserved
loop-i-preserved g c =
    put_more literal_text (clause_of (g.F.Formula.meaning c.args.f.now) c.args.j) c.loop-i.i 0 (omega arith) c.loop-i.invariant
    (put_as (ap literal_text c.literal.ensures) c.put_literal.ensures)

pub returns : goal.returns
returns g c =
    put_every literal_text (clause_of (g.F.Formula.meaning c.args.f.now) c.args.j) c.loop-i.i (omega arith) c.loop-i.invariant
