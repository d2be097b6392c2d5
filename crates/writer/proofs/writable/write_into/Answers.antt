use Rattle.std.proofs.Common.{rules, arith}
use Rattle.writer.proofs.Buffers.{filled_by}
use Rattle.writer.proofs.writable.write_into.Goals as goal

pub returns-clause-holds : goal.returns-clause-holds
returns-clause-holds g c = filled_by (search rules) c.put.ensures.puts c.new-pen.ensures.buffer c.new-pen.ensures.place (omega arith)
