use Rattle.std.proofs.Common.{refl}
use Rattle.sets.proofs.Laying.{written_none, few, zero_word, moved}
use Rattle.sets.proofs.set.LiteralSet.codes.Goals as goal
use Rattle.sets.proofs.set.LiteralSet.codes.Goals.{then-word-ne0, else-word-ne0}

pub loop-i-init : goal.loop-i-init
loop-i-init c = written_none c.args.self.now.words c.args.out.now

pub lay_word-n-requires-clause-few : goal.lay_word-n-requires-clause-few
lay_word-n-requires-clause-few c = few _ _ _ _ _ c.loop-i.invariant

pub loop-i-preserved : goal.loop-i-preserved
loop-i-preserved c =
    elim c.if-word-ne0.branch [
      | then-word-ne0 w ↦ moved _ _ _ _ _ _ _ _ refl w.n-is w.out-is (w.lay_word-n.ensures _ c.loop-i.invariant)
      | else-word-ne0 w ↦ zero_word _ _ c.loop-i.i _ _ _ _ w.if-word-ne0.false w.n-is w.out-is c.loop-i.invariant
    ]
