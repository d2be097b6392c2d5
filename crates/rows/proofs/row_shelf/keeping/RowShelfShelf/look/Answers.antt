-- A line is short, so the place has room for it.
use Rattle.std.proofs.Common.{length, ap, ◌∙◌, arith}
use Rattle.shelf.proofs.Keeping.{line_short}
use Rattle.rows.specs.Held.{shelf_in, shelf_sound}
use Rattle.rows.proofs.Copies.{line_copied}
use Rattle.rows.proofs.row_shelf.keeping.RowShelfShelf.look.Goals as goal

pub returns : goal.returns
returns c =
    let s = c.args.self.now in
    let h = rw c.in_ok-literals.ensures.ok_part at c.literals.ensures in (
      h.0,
      c.codes.ensures.count ∙ ap length h.1,
      line_copied c.in_ok-literals.literals.words c.args.place.now c.codes.new.out _ c.codes.result h.1 c.codes.ensures.count c.codes.ensures.written
          (omega (arith, line_short (shelf_in s) c.args.line (shelf_sound s))),
    )
