use Rattle.case.specs.Standing.{standing}
use Rattle.case.proofs.Verdicts.{verdict_holds, says_closed}
use Rattle.case.proofs.case.Case.verdict.Goals as goal

pub returns : goal.returns
returns g c =
    let stands = standing g.F.Formula.meaning g.S.Shelf.meaning c.args.self.now in
    record {
      says = c.tally.ensures.says;
      closed = says_closed stands _ c.tally.ensures.closed c.tally.ensures.says;
      right = verdict_holds stands _ (g.F.Formula.formed c.args.self.now.formula) c.tally.ensures.says;
    }
