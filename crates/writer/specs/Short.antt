-- How long the text of a formula can be.
use Rattle.std.specs.Prelude.{ℕ, ◌≤◌, length}
use Rattle.calculus.specs.Meaning.{Meaning, Formed}
use Rattle.writer.specs.Back.{FitsLimits}
use Rattle.writer.specs.Written.{written}

-- 15 bytes for the header, 4 for each of 512 variables and of 512 levels, 5 for each of 16,384 literals, 2 for each of 2,048 clauses
abbrev pub longest : ℕ
longest = 90127

-- the text of a formula within the limits is at most so long
abbrev pub TidyTextIsShort : Type 0
TidyTextIsShort = (m : Meaning) → Formed m → FitsLimits m → length (written m) ≤ longest
