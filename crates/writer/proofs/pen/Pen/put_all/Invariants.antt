use Rattle.std.proofs.Common.{take}
use Rattle.writer.specs.Pen.{Put}
use Rattle.writer.proofs.pen.Pen.put_all.Given as goal

abbrev pub invariant-loop-byte : goal.invariant-loop-byte
invariant-loop-byte l = Put (take l.byte-index l.bytes) l.initial.self l.self
