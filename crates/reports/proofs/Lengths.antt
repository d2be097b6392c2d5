-- How long the line of a report can be.
use Rattle.std.proofs.Common.{ℕ, ◌^◌, ◌<◌, ◌≤◌, List, length, decimal, arith, length-append}
use Rattle.std.proofs.lemmas.Fmt.{length-decimal-le}
use Rattle.case.specs.Answers.{refusal_number}
use Rattle.case.specs.declared.refusal.Refusal.{Refusal}
use Rattle.case.specs.declared.refusal.Refusal.TheVariants.{Closed, Absent, Tautology, Pivot, Reduction, Level, Asymmetry, Full}
use Rattle.dockets.specs.Reading.{rule_number}
use Rattle.dockets.specs.declared.fault.LineRule.{LineRule}
use Rattle.dockets.specs.declared.fault.LineRule.TheVariants.{Map, Short, Card}
use Rattle.faults.specs.Faults.{Layer, of_text, of_docket, of_claim, fault_number, fault_layer, fault_byte, fault_lines}
use Rattle.faults.specs.declared.docket_fault.DocketFault.TheVariants.{Line, Claim}
use Rattle.faults.specs.declared.report_fault.ReportFault.{ReportFault}
use Rattle.faults.specs.declared.report_fault.ReportFault.TheVariants.{Text, Docket}
use Rattle.writer.proofs.Lengths.{number_short}
use Rattle.reports.specs.declared.report.Report.TheVariants.{Refuted, Open, Refused, TooLong}
use Rattle.reports.specs.Lines.{layer_word, refuted_line, open_line, refused_line}
use Rattle.reports.specs.Short.{longest, ReportIsShort}

-- digits of numbers that 64 bits hold
long_short : (k : ℕ) → k < 2 ^ 64 → length (decimal k) ≤ 20
long_short k h = length-decimal-le 20 k (omega arith) (omega arith) h

pub refuted_short : (line lines : ℕ) → line < 2 ^ 64 → lines < 2 ^ 64 → length (refuted_line line lines) ≤ longest
unfolding refuted_line
refuted_short line lines h k = simp length-append (omega (arith, long_short line h, long_short lines k))

pub open_short : (lines : ℕ) → lines < 2 ^ 64 → length (open_line lines) ≤ longest
unfolding open_line
open_short lines h = simp length-append (omega (arith, long_short lines h))

pub refused_short : (number : ℕ) (word : List ℕ) (byte lines : ℕ) → number < 100 → length word ≤ 6 → byte < 2 ^ 64 → lines < 2 ^ 64 →
    length (refused_line number word byte lines) ≤ longest
unfolding refused_line
refused_short number word byte lines n w h k =
    simp length-append
    (omega (arith, length-decimal-le 2 number (omega arith) n (omega arith), long_short byte h, long_short lines k))

-- every fault has a number of two digits
line_number_short : (rule : LineRule) → rule_number rule < 100
line_number_short Map = omega arith
line_number_short Short = omega arith
line_number_short Card = omega arith

claim_number_short : (refusal : Refusal) → refusal_number refusal < 100
claim_number_short Closed = omega arith
claim_number_short Absent = omega arith
claim_number_short Tautology = omega arith
claim_number_short Pivot = omega arith
claim_number_short Reduction = omega arith
claim_number_short Level = omega arith
claim_number_short Asymmetry = omega arith
claim_number_short Full = omega arith

pub fault_number_short : (fault : ReportFault) → fault_number fault < 100
fault_number_short (Text f) = number_short f.rule
fault_number_short (Docket (Line f) lines) = line_number_short f.rule
fault_number_short (Docket (Claim refusal byte) lines) = claim_number_short refusal

-- docket is the longest of the three words
pub word_short : (layer : Layer) → length (layer_word layer) ≤ 6
word_short of_text = omega arith
word_short of_docket = omega arith
word_short of_claim = omega arith

pub report_short : ReportIsShort
report_short (Refuted line lines) h = refuted_short line lines h.0 h.1
report_short (Open lines) h = open_short lines h
report_short (Refused f) h =
    refused_short (fault_number f) (layer_word (fault_layer f)) (fault_byte f) (fault_lines f) (fault_number_short f) (word_short (fault_layer f)) h.0 h.1
report_short TooLong h = omega arith
