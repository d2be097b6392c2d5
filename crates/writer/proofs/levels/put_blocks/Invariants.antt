use Rattle.std.proofs.Common.{◌-◌}
use Rattle.std.specs.List.{range_with_len, flat_map}
use Rattle.writer.specs.Pen.{Put}
use Rattle.writer.specs.Written.{block_line}
use Rattle.writer.proofs.levels.put_blocks.Given as goal

abbrev pub invariant-loop-k : goal.invariant-loop-k
invariant-loop-k g l = Put (flat_map (block_line (g.F.Formula.meaning l.f)) (range_with_len 1 (l.k - 1))) l.initial.pen l.pen
