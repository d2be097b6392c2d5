use Rattle.std.proofs.Common.{[], sym, subst}
use Rattle.case.specs.Claimed.{After}
use Rattle.case.proofs.Opening.{opened_after}
use Rattle.case.proofs.case.Case.open.Goals as goal

pub returns : goal.returns
returns g c =
    let e = c.cleared.ensures.stands in
    record { stands = e; held = c.cleared.ensures.held; reached = subst (After []) (sym e) (opened_after (g.F.Formula.meaning c.args.formula) (g.S.Shelf.meaning c.args.shelf)) }
