use Rattle.std.proofs.Common.{sym, arith}
use Rattle.std.proofs.lemmas.List.{set_past}
use Rattle.sets.proofs.set.listing.put.Goals as goal

pub returns-else-n-out : goal.returns-else-n-out
returns-else-n-out c = sym (set_past c.args.out.now c.args.n c.args.code (omega arith))
