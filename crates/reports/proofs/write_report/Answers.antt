use Rattle.writer.proofs.Buffers.{has_room}
use Rattle.reports.specs.Lines.{report_line}
use Rattle.reports.specs.Short.{longest}
use Rattle.reports.proofs.Lengths.{report_short}
use Rattle.reports.proofs.write_report.Goals as goal

pub returns-clause-room : goal.returns-clause-room
returns-clause-room c =
    has_room longest (report_line c.args.report) c.args.out.now (report_short c.args.report c.write_into.ensures.knows) c.write_into.ensures.answers
