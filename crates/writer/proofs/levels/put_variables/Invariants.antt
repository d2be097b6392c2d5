use Rattle.std.proofs.Common.{◌+◌, ◌-◌, ◌≤◌, eqb, filter}
use Rattle.std.specs.List.{range_with_len, flat_map}
use Rattle.calculus.specs.Meaning.{level_of}
use Rattle.writer.specs.Pen.{Put}
use Rattle.writer.specs.Written.{variable_text}
use Rattle.writer.proofs.levels.put_variables.Given as goal

abbrev pub invariant-loop-v : goal.invariant-loop-v
invariant-loop-v g l =
    let m = g.F.Formula.meaning l.f in
    (1 ≤ l.v) × (l.v ≤ m.n + 1) × Put (flat_map variable_text (filter (λ v. eqb (level_of m v) l.k) (range_with_len 1 (l.v - 1)))) l.initial.pen l.pen
