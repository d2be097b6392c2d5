-- How a fault is printed, by what it keeps.
use Rattle.std.specs.Prelude.{ℕ, List, ◌++◌, codes, decimal}
use Rattle.grammar.specs.Printed.{fault_text}
use Rattle.case.specs.Printed.{refusal_word}
use Rattle.dockets.specs.Printed.{fault_text as line_text}
use Rattle.faults.specs.declared.docket_fault.DocketFault.{DocketFault}
use Rattle.faults.specs.declared.docket_fault.DocketFault.TheVariants.{Line, Claim}
use Rattle.faults.specs.declared.report_fault.ReportFault.{ReportFault}
use Rattle.faults.specs.declared.report_fault.ReportFault.TheVariants.{Text, Docket}

-- the fault of the line's bytes; or the refusal, and the byte where the claim stands
abbrev pub docket_text : DocketFault → List ℕ
docket_text (Line f) = line_text f
docket_text (Claim refusal byte) = refusal_word refusal ++ codes " at byte " ++ decimal byte

-- the fault of the text; or that of the docket, and how many lines were kept by then
abbrev pub report_text : ReportFault → List ℕ
report_text (Text f) = fault_text f
report_text (Docket f lines) = docket_text f ++ codes ", lines kept " ++ decimal lines
