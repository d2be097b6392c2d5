-- There are cells for the line, and with it the lines lie as they should.
use Rattle.std.proofs.Common.{length, ap, subst, arith}
use Rattle.shelf.specs.Proper.{proper_out}
use Rattle.shelf.proofs.Climbing.{proper_short}
use Rattle.cells.specs.Layout.{Lies}
use Rattle.cells.proofs.Rooms.{weighs}
use Rattle.cells.proofs.Standing.{grown, grown_lines}
use Rattle.cells.proofs.cell_shelf.CellShelf.push.Goals as goal

pub write_line-requires-clause-short : goal.write_line-requires-clause-short
write_line-requires-clause-short c = omega (arith, ap length c.codes-codes.ensures, proper_short c.args.clause.codes.now (proper_out c.args.clause.proper))

pub write_line-requires-clause-free : goal.write_line-requires-clause-free
write_line-requires-clause-free c = omega (arith, ap length c.codes-codes.ensures, weighs c.args.self.now, c.requires.1)

pub invariant_of-self : goal.invariant_of-self
invariant_of-self c =
    let w = c.write_line in
    let f =
    grown c.args.self.now w.new.cells c.args.clause.codes.now w.ensures.before w.auto.cells (subst (Lies w.new.cells c.args.self.now.used) c.codes-codes.ensures w.ensures.lies) _
    (omega (arith, ap length c.codes-codes.ensures)) (omega (arith, c.requires.0, c.args.self.now.counted)) (proper_out c.args.clause.proper) in
    record { within = f.within; few = f.few; long = f.long; laid = f.laid; counted = f.counted; indexed = f.indexed; proper = f.proper }

pub returns-clause-kept : goal.returns-clause-kept
returns-clause-kept c =
    let w = c.write_line in
    rw (w.auto.cells, grown_lines c.args.self.now w.new.cells c.args.clause.codes.now w.ensures.before w.auto.cells (subst (Lies w.new.cells c.args.self.now.used) c.codes-codes.ensures w.ensures.lies))
