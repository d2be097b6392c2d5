use Rattle.std.proofs.Common.{◌∙◌, arith}
use Rattle.std.proofs.lemmas.Result.{err_from_is_err_and}
use Rattle.examining.proofs.Going.{came_more, goes_forward, right_whole, right_fault, stepped_on, stepped_fault}
use Rattle.examining.proofs.examination.examine.Goals as goal

pub returns-then-at-docket : goal.returns-then-at-docket
returns-then-at-docket g c = right_whole _ _ _ _ c.loop-at.invariant (g.F.Formula.formed c.loop-at.case.formula) c.if-at-docket.true

pub returns-in_err-at : goal.returns-in_err-at
returns-in_err-at g c =
    right_fault _ _ _ _ c.loop-at.invariant (g.F.Formula.formed c.loop-at.case.formula) _ _ _
    (err_from_is_err_and c.from_residual.result c.from_residual.ensures.1) c.if-at-docket.false
    (stepped_fault _ _ _ _ _ _ _ _ c.step.ensures c.with_place.ensures c.in_err-at.was (c.granted-kept.ensures ∙ c.verdict.ensures.says.1))

pub loop-at-smaller : goal.loop-at-smaller
loop-at-smaller g c =
    let on = stepped_on _ _ _ _ _ _ _ _ c.step.ensures c.with_place.ensures c.in_ok-at.was in
    let forward = goes_forward _ _ _ _ _ on in
    omega arith

pub loop-at-preserved : goal.loop-at-preserved
loop-at-preserved g c =
    came_more _ _ _ _ _ _ c.loop-at.invariant (λ k. omega (arith, c.type_inv.docket k)) (stepped_on _ _ _ _ _ _ _ _ c.step.ensures c.with_place.ensures c.in_ok-at.was)
