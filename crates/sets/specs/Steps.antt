-- What the steps inside do to words and cells.
use Rattle.std.specs.Prelude.{◌≡◌, ℕ, ◌-◌, ◌/◌, ◌%◌, ◌^◌, List, length, bit_and, bit_or, slice_index, slice_set}
use Rattle.sets.specs.Members.{first_members}
use Rattle.sets.specs.Laid.{laid}

-- the words with the bit of l set
abbrev pub with_bit : List ℕ → ℕ → List ℕ
with_bit words l = slice_set words ((l - 2) / 64) (bit_or (slice_index words ((l - 2) / 64)) (2 ^ ((l - 2) % 64)))

-- the bits of a word at even places that are set together with the next one
abbrev pub pairs : ℕ → ℕ
pairs w = bit_and (bit_and w (w / 2 ^ 1)) 0x5555_5555_5555_5555

-- the literals of the set among the k first ones have been written into the cells, which are out now; there are n of them
pub record Written (words cells : List ℕ) (k n : ℕ) (out : List ℕ) : Type 0 where
  pub count : n ≡ length (first_members words k)
  pub held : out ≡ laid (first_members words k) cells
