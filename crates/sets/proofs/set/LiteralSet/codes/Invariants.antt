use Rattle.std.proofs.Common.{◌*◌}
use Rattle.sets.specs.Steps.{Written}
use Rattle.sets.proofs.set.LiteralSet.codes.Given as goal

abbrev pub invariant-loop-i : goal.invariant-loop-i
invariant-loop-i l = Written l.self.words l.initial.out (64 * l.i) l.n l.out
