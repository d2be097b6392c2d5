use Rattle.std.proofs.Common.{refl}
use Rattle.std.specs.Fmt.{digits}
use Rattle.reports.specs.Lines.{refuted_line, open_line, refused_line}
use Rattle.reports.proofs.examples_stand.Goals as goal

pub returns : goal.returns
unfolding refuted_line open_line refused_line digits
returns c = record { refuted = refl; no_line = refl; short = refl; pivot = refl; long = refl }
