-- One line of a docket: the claim that it is, and what comes of it.
use Rattle.std.specs.Prelude.{◌≡◌, ℕ, ◌+◌, List, length, Ok, Result, MatchResult}
use Rattle.laws.specs.Lines.{Line}
use Rattle.case.specs.Answers.{line_of}
use Rattle.case.specs.Claimed.{Claimed}
use Rattle.case.specs.Standing.{Standing}
use Rattle.case.specs.declared.claim.Claim.{Claim}
use Rattle.dockets.specs.Encoding.{encoded}
use Rattle.dockets.specs.Lines.{entry_for}
use Rattle.dockets.specs.Reading.{card_checks, line_checks, Hold, FailsAt, entry_at}
use Rattle.dockets.specs.declared.fault.LineFault.{LineFault}
use Rattle.dockets.specs.declared.line.Line.{Line as DocketLine}
use Rattle.dockets.specs.declared.line.Line.TheVariants.{Symmetry}
use Rattle.faults.specs.declared.docket_fault.DocketFault.{DocketFault}
use Rattle.faults.specs.declared.report_fault.ReportFault.{ReportFault}
use Rattle.faults.specs.declared.report_fault.ReportFault.TheVariants.{Text, Docket}
use Rattle.examining.specs.Entries.{Claims}
use Rattle.examining.specs.Examined.{NextFault}

-- the line has a card, with this fault
abbrev pub CardFails : List ℕ → DocketLine → LineFault → Type 0
CardFails docket line fault = (p : ℕ) × (place : ℕ) × (line ≡ Symmetry p place) × FailsAt fault (card_checks docket place)

-- this is the claim of a line of a docket; or its card has this fault
abbrev pub ClaimOf : List ℕ → DocketLine → Result Claim LineFault → Type 0
ClaimOf docket line r = MatchResult r (λ claim. Claims (entry_for docket line) (line_of claim)) (λ fault. CardFails docket line fault)

-- the line at an offset is read and granted, which leads from s to t, and the next offset is behind it
abbrev pub LineGranted : Standing → List ℕ → ℕ → ℕ → Standing → Type 0
LineGranted s docket at next t =
    Hold (line_checks docket at) × (next ≡ at + length (encoded (entry_at docket at))) ×
    ((line : Line) × (p : ℕ) × Claims (entry_at docket at) line × Claimed s line (Ok p) t)

-- one line: it is granted; or it has the next fault, and nothing has changed
abbrev pub Stepped : Standing → List ℕ → ℕ → Result ℕ DocketFault → Standing → Type 0
Stepped s docket at r t = MatchResult r (λ next. LineGranted s docket at next t) (λ fault. NextFault docket at s fault × (t ≡ s))

-- the next fault, told the lines kept by then
abbrev pub NextReported : List ℕ → ℕ → Standing → ReportFault → Type 0
NextReported docket at s (Text fault) = ⊥
NextReported docket at s (Docket fault lines) = NextFault docket at s fault × (lines ≡ length s.shelf.kept)
