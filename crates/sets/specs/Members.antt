-- A set of literals in sixteen words of 64 bits: literal l, from 2 to 1025, is bit l - 2.
use Rattle.std.specs.Prelude.{ℕ, ◌-◌, ◌/◌, ◌%◌, ◌^◌, Bool, List, filter, ◌==◌, slice_index}
use Rattle.std.specs.List.{range_with_len}

-- bit i of a word
abbrev pub bit : ℕ → ℕ → ℕ
bit w i = w / 2 ^ i % 2

-- the words have the bit of l
abbrev pub has_bit : List ℕ → ℕ → Bool
has_bit words l = bit (slice_index words ((l - 2) / 64)) ((l - 2) % 64) == 1

-- the literals of the set among the k first ones, in ascending order
unfoldable pub first_members : List ℕ → ℕ → List ℕ
first_members words k = filter (has_bit words) (range_with_len 2 k)

-- the literals of the set, in ascending order
abbrev pub members : List ℕ → List ℕ
members words = first_members words 1024
