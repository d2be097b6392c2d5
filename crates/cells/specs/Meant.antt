-- The shelf that a cell shelf is.
use Rattle.std.specs.Prelude.{ℕ, length}
use Rattle.laws.specs.Store.{Store}
use Rattle.shelf.specs.Shelved.{Shelved}
use Rattle.cells.specs.Layout.{parse}
use Rattle.cells.specs.declared.cell_shelf.CellShelf.{CellShelf}

-- so many cells: a clause takes one, and each of its literals one more
abbrev pub cell_store : ℕ → Store
cell_store n = record { capacity = n; base = 1; rate = 1 }

-- the lines that lie in its cells
abbrev pub meant : CellShelf → Shelved
meant s = record { store = cell_store (length s.cells.now); kept = parse s.count s.cells.now }
