-- What a row shelf means, and that it keeps to the bounds of a shelf.
use Rattle.shelf.specs.Shelved.{Shelved, Sound}
use Rattle.rows.specs.Rows.{shelved}
use Rattle.rows.specs.Bearing.{shelved_sound}
use Rattle.rows.specs.declared.row_shelf.RowShelf.{RowShelf}

-- the whole rows of its words, and the clauses in as many of them as it counts
abbrev pub shelf_in : RowShelf → Shelved
shelf_in s = shelved s.words.now s.count

-- it keeps to the bounds
pub shelf_sound : (s : RowShelf) → Sound (shelf_in s)
shelf_sound s = shelved_sound s.words.now s.count s.few s.within s.proper
