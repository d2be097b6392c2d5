use Rattle.case.specs.Standing.{standing}
use Rattle.case.proofs.Makings.{Made}
use Rattle.case.proofs.running.run.Given as goal

abbrev pub invariant-loop-i : goal.invariant-loop-i
invariant-loop-i g l =
    let it = l.i-iterator in
    Made (g.S.Shelf.meaning l.initial.case.shelf).store (g.F.Formula.meaning l.initial.case.formula) l.calls it.iter.count it.iter.iter.rest.now it.n l.initial.replies l.replies
    (standing g.F.Formula.meaning g.S.Shelf.meaning l.case)
