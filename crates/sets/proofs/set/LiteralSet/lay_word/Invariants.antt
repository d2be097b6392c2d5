use Rattle.std.proofs.Common.{ℕ, ◌+◌, ◌*◌, ◌≤◌, List}
use Rattle.sets.specs.Steps.{Written}
use Rattle.sets.proofs.set.LiteralSet.lay_word.Given as goal

abbrev pub invariant-loop-b : goal.invariant-loop-b
invariant-loop-b l =
    (l.end ≤ 64 * l.i + l.b) ×
    ((cells : List ℕ) → Written l.self.words cells (64 * l.i) l.n l.initial.out → Written l.self.words cells (64 * l.i + l.b) l.end l.out)
