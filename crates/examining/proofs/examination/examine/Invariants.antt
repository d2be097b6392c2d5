use Rattle.std.proofs.Common.{◌-◌, length}
use Rattle.case.specs.Standing.{standing}
use Rattle.examining.proofs.Going.{Came}
use Rattle.examining.proofs.examination.examine.Given as goal

abbrev pub invariant-loop-at : goal.invariant-loop-at
invariant-loop-at g l = Came (standing g.F.Formula.meaning g.S.Shelf.meaning l.initial.case) l.docket l.at (standing g.F.Formula.meaning g.S.Shelf.meaning l.case)

abbrev pub decreases-loop-at : goal.decreases-loop-at
decreases-loop-at g l = length l.docket - l.at
