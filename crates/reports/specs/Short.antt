-- How long the line of a report can be.
use Rattle.std.specs.Prelude.{ℕ, ◌^◌, ◌<◌, ◌≤◌, List, length, Result}
use Rattle.faults.specs.Faults.{fault_byte, fault_lines}
use Rattle.writer.specs.declared.fault.WriteFault.{WriteFault}
use Rattle.writer.specs.Into.{RoomFor}
use Rattle.reports.specs.declared.report.Report.{Report}
use Rattle.reports.specs.declared.report.Report.TheVariants.{Refuted, Open, Refused, TooLong}
use Rattle.reports.specs.Lines.{report_line}

-- 34 bytes of words and blanks, 2 for the fault's number, 20 for its byte and 20 for the lines
abbrev pub longest : ℕ
longest = 76

-- the numbers of a report are such as 64 bits hold
abbrev pub InRange : Report → Type 0
InRange (Refuted line lines) = (line < 2 ^ 64) × (lines < 2 ^ 64)
InRange (Open lines) = lines < 2 ^ 64
InRange (Refused f) = (fault_byte f < 2 ^ 64) × (fault_lines f < 2 ^ 64)
InRange TooLong = Unit {0}

-- the line of a report is at most so long
abbrev pub ReportIsShort : Type 0
ReportIsShort = (report : Report) → InRange report → length (report_line report) ≤ longest

-- a buffer as long as a line can be is long enough; what is written lies within the buffer
abbrev pub Room : List ℕ → Result ℕ WriteFault → Type 0
Room = RoomFor longest
