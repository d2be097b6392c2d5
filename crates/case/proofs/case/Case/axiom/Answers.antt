use Rattle.std.proofs.lemmas.Result.{err_from_is_err_and}
use Rattle.case.proofs.Settling.{claim_kept, claim_refused}
use Rattle.case.proofs.case.Case.axiom.Goals as goal

pub returns-in_err-set : goal.returns-in_err-set
returns-in_err-set g c = let p = err_from_is_err_and c.from_residual.result c.from_residual.ensures.1 in rw (p.1, p.2) (claim_refused _ _ _ c.in_err-set.ensures)

pub returns : goal.returns
returns g c = claim_kept _ _ c.in_ok-set.set c.in_ok-set.ensures _ _ c.keep.ensures
