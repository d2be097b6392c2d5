use Rattle.std.proofs.Common.{get_or, rules}
use Rattle.laws.specs.Cards.{act}
use Rattle.cards.specs.Meant.{meant}
use Rattle.cards.proofs.Calls.{from_calls}
use Rattle.cards.proofs.Composites.{Joined, permuted, joins}
use Rattle.cards.proofs.card.Card.then.Goals as goal

joined : (c : goal.After-from_fn) → Joined (meant c.args.self) (meant c.args.second) c.from_fn.result
joined c = record {
  long = c.from_fn.ensures.items.long;
  each = from_calls _ (λ i. act (meant c.args.second) (get_or c.args.self.images i 0)) _ (λ i y q k. search rules) _ 0 513 c.from_fn.ensures.items;
}

pub with_images-requires : goal.with_images-requires
with_images-requires c = permuted (meant c.args.self) (meant c.args.second) c.from_fn.result (joined c)

pub returns : goal.returns
returns c = joins (meant c.args.self) (meant c.args.second) c.from_fn.result (joined c.before) (meant c.with_images.result) c.with_images.ensures
