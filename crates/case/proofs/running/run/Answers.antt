use Rattle.std.proofs.Common.{ap, ◌∙◌}
use Rattle.case.specs.Standing.{standing}
use Rattle.case.proofs.Makings.{made_none, made_more, made_right}
use Rattle.case.proofs.Steps.{led_none}
use Rattle.case.proofs.running.run.Goals as goal

pub loop-i-init : goal.loop-i-init
loop-i-init g c =
    let e = c.into_iter-i-iterator.ensures.into_iter_gives in
    let f = ap (λ it. it.iter) e ∙ c.take-i-items.ensures.source in
    made_none _ _ _ _ _ _ _ _ (led_none (standing g.F.Formula.meaning g.S.Shelf.meaning c.open-case.result) c.open-case.ensures.reached) (ap (λ it. it.count) f ∙ c.enumerate.ensures.count)
    (ap (λ it. it.iter.rest.now) f ∙ ap (λ it. it.rest.now) c.enumerate.ensures.source ∙ c.iter.ensures.rest) (ap (λ it. it.n) e ∙ c.take-i-items.ensures.count)

pub loop-i-preserved : goal.loop-i-preserved
loop-i-preserved g c =
    let (source, fewer) = c.in-Some.ensures.steps in
    made_more _ _ _ _ _ _ _ _ _ c.loop-i.invariant _ _ source.0 _ _ _ _ _ source.2 source.1 fewer c.answer.ensures

pub returns : goal.returns
returns g c =
    made_right _ _ _ _ (ap (λ s. s.shelf.store) c.open-case.ensures.stands) (ap (λ s. s.formula) c.open-case.ensures.stands) (g.F.Formula.formed c.args.formula) _ _ _ _ _ _ _
    c.loop-i.invariant (λ h. (c.in-None.ensures.steps h).0.0)
