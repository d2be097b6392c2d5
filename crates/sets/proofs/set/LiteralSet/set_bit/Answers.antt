use Rattle.std.proofs.Common.{◌^◌, arith}
use Rattle.std.proofs.lemmas.Nat.{mod_below}
use Rattle.sets.proofs.Bits.{small_more}
use Rattle.sets.proofs.set.LiteralSet.set_bit.Goals as goal

pub invariant_of-self-clause-small : goal.invariant_of-self-clause-small
invariant_of-self-clause-small c = small_more c.args.self.now.words c.args.self.now.small _ _ (mod_below _ (2 ^ 64) (omega arith)) (omega arith)
