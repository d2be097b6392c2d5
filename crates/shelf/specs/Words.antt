-- The word of each fault of a shelf.
use Rattle.std.specs.Prelude.{ℕ, List, codes}
use Rattle.shelf.specs.declared.fault.ShelfFault.{ShelfFault}
use Rattle.shelf.specs.declared.fault.ShelfFault.TheVariants.{Absent, Full}

abbrev pub shelf_word : ShelfFault → List ℕ
shelf_word Absent = codes "absent"
shelf_word Full = codes "full"
