use Rattle.std.proofs.Common.{◌≡◌, ◌++◌, ℕ, Option, take}
use Rattle.std.specs.List.{filter_map}
use Rattle.laws.specs.Claims.{sorted}
use Rattle.rules.specs.Taking.{TakesTo}
use Rattle.sets.specs.Members.{members}
use Rattle.rules.proofs.clauses.add_taken.Given as goal

abbrev pub invariant-loop-code : goal.invariant-loop-code
invariant-loop-code g l =
    (h : ℕ → Option ℕ) → TakesTo (λ x r. g.T.Fn.post l.taken (x, tt) r) h → members l.set.words ≡ sorted (members l.initial.set.words ++ filter_map h (take l.code-index l.codes))
