-- Lists written into cells.
use Rattle.std.specs.Prelude.{ℕ, List, ◌++◌, length, take, drop}

-- the cells after xs was written into them from the start, as far as they go
unfoldable pub laid : List ℕ → List ℕ → List ℕ
laid xs cells = take (length cells) xs ++ drop (length xs) cells
