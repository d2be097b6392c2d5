use Rattle.refute.proofs.Negating.{made}
use Rattle.refute.proofs.claims.make_claims.Goals as goal

pub unwrap-card-requires : goal.unwrap-card-requires
unwrap-card-requires g c = made _ c.from_pairs.ensures
