use Rattle.cards.proofs.Reading.{Read}
use Rattle.cards.proofs.card.Card.from_pairs.Given as goal

abbrev pub invariant-loop-k : goal.invariant-loop-k
invariant-loop-k l = Read l.pairs l.k l.last l.images l.named.marks l.seen.marks
