use Rattle.std.proofs.Common.{◌≡◌, take}
use Rattle.std.specs.List.{AllByRecursion}
use Rattle.calculus.specs.Meaning.{Code}
use Rattle.laws.specs.Claims.{sorted}
use Rattle.sets.specs.Members.{members}
use Rattle.sets.proofs.set.LiteralSet.of.Given as goal

abbrev pub invariant-loop-code : goal.invariant-loop-code
invariant-loop-code l = AllByRecursion (Code 512) (take l.code-index l.codes) × (members l.set.words ≡ sorted (take l.code-index l.codes))
