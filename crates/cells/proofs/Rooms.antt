-- The lines weigh as much as the cells that are used.
use Rattle.std.proofs.Common.{◌≡◌, length, ap, arith, length-take}
use Rattle.laws.specs.Store.{weights}
use Rattle.cells.specs.Bounds.{flat_weighs}
use Rattle.cells.specs.Layout.{parse}
use Rattle.cells.specs.Meant.{meant}
use Rattle.cells.specs.declared.cell_shelf.CellShelf.{CellShelf}

pub weighs : (s : CellShelf) → weights (meant s).store (meant s).kept ≡ s.used
weighs s = omega (arith, flat_weighs (length s.cells.now) (parse s.count s.cells.now), ap length s.laid, length-take s.used s.cells.now, s.within)
