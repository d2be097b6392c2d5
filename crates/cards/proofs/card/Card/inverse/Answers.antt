use Rattle.std.proofs.Common.{arith}
use Rattle.cards.specs.Meant.{meant}
use Rattle.cards.proofs.Inverses.{inverted, undoes, is_undone}
use Rattle.cards.proofs.card.Card.inverse.Goals as goal

pub with_images-requires : goal.with_images-requires
with_images-requires c = inverted (meant c.args.self) c.loop-v.v c.loop-v.images (omega arith) c.loop-v.invariant

pub returns : goal.returns
returns c = record {
  back = undoes (meant c.args.self) c.loop-v.v c.loop-v.images (omega arith) c.loop-v.invariant (meant c.with_images.result) c.with_images.ensures;
  forth = is_undone (meant c.args.self) c.loop-v.v c.loop-v.images (omega arith) c.loop-v.invariant (meant c.with_images.result) c.with_images.ensures;
}
