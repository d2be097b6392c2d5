-- A line by its length and its codes, of which there are few.
use Rattle.std.proofs.Common.{◌≡◌, ◌+◌, ◌-◌, length, take, drop, ap, ◌∙◌, arith}
use Rattle.shelf.proofs.Keeping.{line_short}
use Rattle.cells.specs.Bounds.{meant_sound}
use Rattle.cells.specs.Meant.{meant}
use Rattle.cells.proofs.Places.{size, codes}
use Rattle.cells.proofs.cell_shelf.CellShelf.line.Goals as goal

pub returns : goal.returns
returns c =
    let s = c.args.self.now in
    let h = c.in_ok-at.ensures in
    let n : c.in_ok-at.at + 1 + c.from-len.result - (c.in_ok-at.at + 1) ≡ c.from-len.result = omega arith in
    let e =
    ap (λ k. take k (drop (c.in_ok-at.at + 1) s.cells.now)) (n ∙ c.from-len.ensures ∙ size s.cells.now c.in_ok-at.at _ h.1)
    ∙ codes s.cells.now c.in_ok-at.at _ h.1 in
    (h.0, e, omega (arith, ap length e, line_short (meant s) c.args.line (meant_sound s)))
