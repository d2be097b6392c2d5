use Rattle.dockets.proofs.Pairing.{Filled}
use Rattle.dockets.proofs.cursor.Cursor.pairs.Given as goal

abbrev pub invariant-loop-k : goal.invariant-loop-k
invariant-loop-k l = Filled l.self.docket.now l.self.at l.k l.pairs
