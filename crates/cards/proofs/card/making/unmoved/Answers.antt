use Rattle.std.proofs.Common.{◌*◌, rules}
use Rattle.cards.proofs.Calls.{from_calls}
use Rattle.cards.proofs.card.making.unmoved.Goals as goal

pub returns : goal.returns
returns c = from_calls _ (λ i. 2 * i) _ (λ i y q k. search rules) _ 0 513 c.from_fn.ensures.items
