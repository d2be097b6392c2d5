use Rattle.cards.specs.Meant.{meant}
use Rattle.mirroring.proofs.Negating.{image_negated}
use Rattle.mirroring.proofs.image.image_under.Goals as goal

pub returns : goal.returns
returns g c =
    let made = rw c.unwrap.ensures at c.new.ensures in
    image_negated (g.F.Formula.meaning c.args.f) (g.F.Formula.formed c.args.f) (meant c.args.card) c.requires _ made.1
