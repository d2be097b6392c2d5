use Rattle.std.proofs.Common.{refl, ◌∙◌, arith}
use Rattle.sets.proofs.Laying.{bit_in, bit_out}
use Rattle.sets.proofs.set.LiteralSet.lay_word.Goals as goal
use Rattle.sets.proofs.set.LiteralSet.lay_word.Goals.{then-word-b-eq1, else-word-b-eq1}

pub loop-b-preserved : goal.loop-b-preserved
loop-b-preserved c =
    elim c.if-word-b-eq1.branch [
      | then-word-b-eq1 w ↦ (
        omega (arith, w.end-is),
        λ cells h. bit_in _ cells c.args.i _ _ _ _ _ _ (omega arith) w.if-word-b-eq1.true refl w.end-is
            (w.out-is ∙ w.put.ensures) (c.loop-b.invariant.1 cells h),
      )
      | else-word-b-eq1 w ↦ (
        omega (arith, w.end-is),
        λ cells h. bit_out _ cells c.args.i _ _ _ _ _ (omega arith) w.if-word-b-eq1.false w.end-is w.out-is (c.loop-b.invariant.1 cells h),
      )
    ]
