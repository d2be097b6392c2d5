use Rattle.std.proofs.Common.{refl}
use Rattle.std.specs.Fmt.{digits}
use Rattle.writer.specs.Written.{refusal_line}
use Rattle.reports.specs.Lines.{refused_line}
use Rattle.reports.proofs.text_faults_agree.Goals as goal

pub returns : goal.returns
unfolding refusal_line refused_line digits
returns c fault = refl
