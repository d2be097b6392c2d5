use Rattle.std.proofs.Common.{arith}
use Rattle.std.proofs.lemmas.Result.{err_from_is_err_and}
use Rattle.cards.specs.Meant.{meant}
use Rattle.cards.proofs.Reading.{step_to, refused, unnamed, permuted, makes}
use Rattle.cards.proofs.card.Card.from_pairs.Goals as goal

pub returns-in_err-judged : goal.returns-in_err-judged
returns-in_err-judged c =
    let p = err_from_is_err_and c.from_residual.result c.from_residual.ensures.1 in
    rw (p.1, p.2) (refused _ _ _ _ _ _ c.loop-k.invariant _ (omega arith) c.in_err-judged.ensures)

pub loop-k-preserved : goal.loop-k-preserved
loop-k-preserved c = step_to _ _ _ _ _ _ c.loop-k.invariant _ _ _ c.from.ensures c.mark.ensures c.mark-in-loop-k.ensures c.in_ok-judged.ensures

pub returns-in-Some : goal.returns-in-Some
returns-in-Some c = unnamed _ _ _ _ _ _ c.loop-k.invariant (omega arith) _ c.in-Some.ensures

pub with_images-requires : goal.with_images-requires
with_images-requires c = permuted _ _ _ _ _ _ c.loop-k.invariant (omega arith) c.in-None.ensures

pub returns-in-None : goal.returns-in-None
returns-in-None c = makes _ _ _ _ _ _ c.loop-k.invariant (omega arith) c.in-None.ensures (meant c.with_images.result) c.with_images.ensures
