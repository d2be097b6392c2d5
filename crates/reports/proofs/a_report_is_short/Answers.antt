use Rattle.reports.proofs.Lengths.{report_short}
use Rattle.reports.proofs.a_report_is_short.Goals as goal

pub returns : goal.returns
returns c = report_short
