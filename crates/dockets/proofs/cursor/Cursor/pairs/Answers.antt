use Rattle.std.proofs.Common.{arith}
use Rattle.dockets.proofs.Pairing.{filled_more, filled_all}
use Rattle.dockets.proofs.cursor.Cursor.pairs.Goals as goal

pub loop-k-preserved : goal.loop-k-preserved
loop-k-preserved c = filled_more _ _ _ _ c.loop-k.invariant (omega arith) _ _ c.field_at.ensures c.field_at-in-loop-k.ensures

pub returns : goal.returns
returns c = filled_all _ _ _ _ c.loop-k.invariant c.args.count (omega arith) (omega arith)
