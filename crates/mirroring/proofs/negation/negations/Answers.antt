use Rattle.std.proofs.Common.{rules}
use Rattle.mirroring.proofs.negation.negations.Goals as goal

pub returns : goal.returns
returns c k h = let called = c.from_fn.ensures.items.at k (0, 0) h in search rules
