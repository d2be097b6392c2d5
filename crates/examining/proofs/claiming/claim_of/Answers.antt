use Rattle.std.proofs.Common.{refl}
use Rattle.examining.proofs.Readings.{claims_symmetry}
use Rattle.examining.proofs.claiming.claim_of.Goals as goal

pub returns-in_ok-card_at-in-Symmetry : goal.returns-in_ok-card_at-in-Symmetry
returns-in_ok-card_at-in-Symmetry c = claims_symmetry _ _ _ _ _ _ _ refl c.in-Symmetry.is c.from-in-Symmetry.ensures c.in_ok-card_at-in-Symmetry.ensures.1
