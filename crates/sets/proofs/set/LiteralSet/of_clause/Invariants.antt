use Rattle.std.proofs.Common.{◌≡◌, take}
use Rattle.calculus.specs.Meaning.{clause_of}
use Rattle.laws.specs.Claims.{sorted}
use Rattle.sets.specs.Members.{members}
use Rattle.sets.proofs.set.LiteralSet.of_clause.Given as goal

abbrev pub invariant-loop-i : goal.invariant-loop-i
invariant-loop-i g l = members l.clause.words ≡ sorted (take l.i (clause_of (g.F.Formula.meaning l.f) l.j))
