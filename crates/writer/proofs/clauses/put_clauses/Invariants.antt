use Rattle.std.proofs.Common.{take}
use Rattle.std.specs.List.{flat_map}
use Rattle.writer.specs.Pen.{Put}
use Rattle.writer.specs.Written.{clause_line}
use Rattle.writer.proofs.clauses.put_clauses.Given as goal

abbrev pub invariant-loop-j : goal.invariant-loop-j
invariant-loop-j g l = Put (flat_map clause_line (take l.j (g.F.Formula.meaning l.f).clauses)) l.initial.pen l.pen
