use Rattle.std.proofs.lemmas.Result.{err_from_is_err_and}
use Rattle.case.proofs.Settling.{claim_kept, claim_refused}
use Rattle.case.proofs.case.Case.symmetry.Goals as goal

pub returns-in_err-clause : goal.returns-in_err-clause
returns-in_err-clause g c = let p = err_from_is_err_and c.from_residual.result c.from_residual.ensures.1 in rw (p.1, p.2) (claim_refused _ _ _ c.in_err-clause.ensures)

pub returns : goal.returns
returns g c = claim_kept _ _ c.in_ok-clause.clause c.in_ok-clause.ensures _ _ c.keep.ensures
