use Rattle.cards.specs.Meant.{meant}
use Rattle.cards.proofs.Inverses.{Backed}
use Rattle.cards.proofs.card.Card.inverse.Given as goal

abbrev pub invariant-loop-v : goal.invariant-loop-v
invariant-loop-v l = Backed (meant l.self) l.v l.images
