use Rattle.std.proofs.Common.{◌≡◌, ◌+◌, ◌-◌, arith}
use Rattle.writer.specs.Written.{block_line}
use Rattle.writer.proofs.Pens.{put_count}
use Rattle.writer.proofs.levels.put_blocks.Goals as goal

pub loop-k-preserved : goal.loop-k-preserved
loop-k-preserved g c =
    let e : c.loop-k.k + 1 - 1 ≡ c.loop-k.k = omega arith in
    rw e (put_count (block_line (g.F.Formula.meaning c.args.f.now)) c.loop-k.k (omega arith) c.loop-k.invariant c.put_block.ensures)

pub returns-2 : goal.returns-2
returns-2 g c =
    let e : c.loop-k.k ≡ c.depth-k-end.result = omega arith in
    rw (← c.depth-k-end.ensures, ← e) (put_count (block_line (g.F.Formula.meaning c.args.f.now)) c.loop-k.k (omega arith) c.loop-k.invariant c.put_block.ensures)
