use Rattle.std.proofs.lemmas.Result.{err_from_is_err_and}
use Rattle.case.proofs.Symmetries.{card_fails}
use Rattle.case.proofs.case.Case.check_card.Goals as goal

pub returns-in_err-check_symmetry : goal.returns-in_err-check_symmetry
returns-in_err-check_symmetry g c =
    let p = err_from_is_err_and c.from_residual.result c.from_residual.ensures.1 in rw (p.1, p.2, ← c.self.view_is) (card_fails _ _ _ c.in_err-check_symmetry.ensures)
