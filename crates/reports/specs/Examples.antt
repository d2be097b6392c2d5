-- Reports as they are written: the definitions at work.
use Rattle.std.specs.Prelude.{◌≡◌, ◌-◌, ◌^◌, length, codes}
use Rattle.case.specs.declared.refusal.Refusal.TheVariants.{Pivot}
use Rattle.dockets.specs.declared.fault.LineRule.TheVariants.{Short}
use Rattle.faults.specs.declared.docket_fault.DocketFault.TheVariants.{Line, Claim}
use Rattle.faults.specs.declared.report_fault.ReportFault.TheVariants.{Text, Docket}
use Rattle.grammar.specs.declared.rule.TextFault.{TextFault}
use Rattle.writer.specs.Written.{refusal_line}
use Rattle.reports.specs.declared.report.Report.TheVariants.{Refuted, Open, Refused}
use Rattle.reports.specs.Lines.{report_line}
use Rattle.reports.specs.Short.{longest}

-- a refutation of 12 lines; a docket of no line; a docket that ends too soon; a claim with a wrong pivot; and a line as long as any
pub record Examples : Type 0 where
  pub refuted : report_line (Refuted 12 12) ≡ codes "refuted line 12 lines 12\n"
  pub no_line : report_line (Open 0) ≡ codes "open lines 0\n"
  pub short : report_line (Refused (Docket (Line (record { rule = Short; byte = 40 })) 7)) ≡ codes "refused 22 layer docket byte 40 line 7\n"
  pub pivot : report_line (Refused (Docket (Claim Pivot 33) 7)) ≡ codes "refused 34 layer claim byte 33 line 7\n"
  pub long : length (report_line (Refused (Docket (Line (record { rule = Short; byte = 2 ^ 64 - 1 })) (2 ^ 64 - 1)))) ≡ longest

-- the fault of a text is reported by the line that the writer has for it
abbrev pub TextFaultsAgree : Type 0
TextFaultsAgree = (fault : TextFault) → report_line (Refused (Text fault)) ≡ refusal_line fault
