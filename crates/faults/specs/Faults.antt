-- What a fault keeps: its number, its layer, its byte, and the lines kept by then.
use Rattle.std.specs.Prelude.{ℕ}
use Rattle.grammar.specs.Fault.{number}
use Rattle.case.specs.Answers.{refusal_number}
use Rattle.dockets.specs.Reading.{rule_number}
use Rattle.faults.specs.declared.docket_fault.DocketFault.{DocketFault}
use Rattle.faults.specs.declared.docket_fault.DocketFault.TheVariants.{Line, Claim}
use Rattle.faults.specs.declared.report_fault.ReportFault.{ReportFault}
use Rattle.faults.specs.declared.report_fault.ReportFault.TheVariants.{Text, Docket}

-- the layers at which a fault is met
pub data Layer : Type 0 where
  of_text : Layer
  of_docket : Layer
  of_claim : Layer

abbrev pub docket_number : DocketFault → ℕ
docket_number (Line f) = rule_number f.rule
docket_number (Claim e byte) = refusal_number e

abbrev pub docket_layer : DocketFault → Layer
docket_layer (Line f) = of_docket
docket_layer (Claim e byte) = of_claim

-- the byte of the field, or that of the claim's map byte
abbrev pub docket_byte : DocketFault → ℕ
docket_byte (Line f) = f.byte
docket_byte (Claim e byte) = byte

abbrev pub fault_number : ReportFault → ℕ
fault_number (Text f) = number f.rule
fault_number (Docket f lines) = docket_number f

abbrev pub fault_layer : ReportFault → Layer
fault_layer (Text f) = of_text
fault_layer (Docket f lines) = docket_layer f

abbrev pub fault_byte : ReportFault → ℕ
fault_byte (Text f) = f.byte
fault_byte (Docket f lines) = docket_byte f

-- nothing is kept before the text is read
abbrev pub fault_lines : ReportFault → ℕ
fault_lines (Text f) = 0
fault_lines (Docket f lines) = lines
