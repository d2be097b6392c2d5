use Rattle.std.proofs.Common.{refl}
use Rattle.std.specs.Fmt.{digits}
use Rattle.writer.specs.Written.{written, refusal_line}
use Rattle.writer.proofs.examples_stand.Goals as goal

pub returns : goal.returns
unfolding written refusal_line digits
returns c = (refl, refl)
