use Rattle.cards.proofs.Marks.{unmarked}
use Rattle.cards.proofs.card.marks.Marks.none.Goals as goal

pub returns : goal.returns
returns c = unmarked 513
