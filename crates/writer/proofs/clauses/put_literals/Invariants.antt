use Rattle.std.proofs.Common.{take}
use Rattle.std.specs.List.{flat_map}
use Rattle.calculus.specs.Meaning.{clause_of}
use Rattle.writer.specs.Pen.{Put}
use Rattle.writer.specs.Written.{literal_text}
use Rattle.writer.proofs.clauses.put_literals.Given as goal

abbrev pub invariant-loop-i : goal.invariant-loop-i
invariant-loop-i g l = Put (flat_map literal_text (take l.i (clause_of (g.F.Formula.meaning l.f) l.j))) l.initial.pen l.pen
