use Rattle.std.proofs.Common.{ℕ, ap, ◌∙◌, sym, subst}
use lib.ListN.{length-replicate}
use Rattle.calculus.specs.Literals.{Tautological}
use Rattle.sets.specs.Members.{members}
use Rattle.shelf.specs.Shelved.{Keeps}
use Rattle.case.proofs.Keeping.{counted_front, within_cells, front_members}
use Rattle.case.proofs.case.keeping.shelve.Goals as goal

pub returns : goal.returns
returns g c =
    let free = subst (λ s. Tautological (members s.words) → ⊥) (sym c.literals.ensures) c.args.clause.now.proper in
    subst (λ C. Keeps (g.S.Shelf.meaning c.args.shelf.now) C c.keep.result (g.S.Shelf.meaning c.keep.new.self))
    (front_members c.literals.result.words free _ _ _ (length-replicate {A = ℕ} 512 0) c.codes-len.ensures.count c.codes-len.ensures.written _ c.front.ensures
    ∙ ap (λ s. members s.words) c.literals.ensures)
    c.keep.ensures

pub slice_bounds-cells-end : goal.slice_bounds-cells-end
slice_bounds-cells-end g c =
    let free = subst (λ s. Tautological (members s.words) → ⊥) (sym c.literals.ensures) c.args.clause.now.proper in
    within_cells c.literals.result.words free _ _ _ (length-replicate {A = ℕ} 512 0) c.codes-len.ensures.count c.codes-len.ensures.written

pub slice_bounds-front-end : goal.slice_bounds-front-end
slice_bounds-front-end g c =
    let free = subst (λ s. Tautological (members s.words) → ⊥) (sym c.literals.ensures) c.args.clause.now.proper in
    counted_front c.literals.result.words free _ _ _ (length-replicate {A = ℕ} 512 0) c.codes-len.ensures.count c.codes-len.ensures.written
