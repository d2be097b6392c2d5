use Rattle.std.proofs.Common.{[]}
use Rattle.laws.proofs.Lines.{derivable_fine}
use Rattle.laws.proofs.Soundness.{tree_sound}
use Rattle.laws.proofs.what_is_refuted_is_false.Goals as goal

pub returns : goal.returns
returns c = λ m formed d. tree_sound m formed (derivable_fine m formed [] d).0
