-- Fields from a byte of a docket on: pairs of them, and how many are whole.
use Rattle.std.specs.Prelude.{ℕ, ◌+◌, ◌-◌, ◌*◌, ◌/◌, ◌<◌, List, map, length}
use Rattle.std.specs.List.{range_with_len}
use Rattle.dockets.specs.Placing.{IsFault}
use Rattle.dockets.specs.Reading.{field_at}
use Rattle.dockets.specs.declared.fault.LineRule.TheVariants.{Short}
use Rattle.dockets.specs.declared.fault.LineFault.{LineFault}

-- pair k of those from a byte on, and so many of them
abbrev pub pair_from : List ℕ → ℕ → ℕ → ℕ × ℕ
pair_from docket at k = (field_at docket (at + 4 * k), field_at docket (at + (4 * k + 2)))

abbrev pub pairs_from : List ℕ → ℕ → ℕ → List (ℕ × ℕ)
pairs_from docket at n = map (pair_from docket at) (range_with_len 0 n)

abbrev pub whole_fields : List ℕ → ℕ → ℕ
whole_fields docket at = (length docket - at) / 2

-- fewer fields are whole than are asked for, and the fault is at the first that is cut off
abbrev pub CutOff : List ℕ → ℕ → ℕ → LineFault → Type 0
CutOff docket at asked fault = (whole_fields docket at < asked) × IsFault Short (at + 2 * whole_fields docket at) fault
