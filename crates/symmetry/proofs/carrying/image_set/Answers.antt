use Rattle.std.proofs.Common.{map, arith}
use Rattle.calculus.specs.Meaning.{clause_of}
use Rattle.laws.specs.Cards.{act}
use Rattle.cards.specs.Meant.{meant}
use Rattle.sets.specs.Members.{members}
use Rattle.symmetry.proofs.Found.{among_sorted}
use Rattle.symmetry.proofs.Imaging.{image_more, image_all}
use Rattle.symmetry.proofs.carrying.image_set.Goals as goal

pub loop-i-preserved : goal.loop-i-preserved
loop-i-preserved g c =
    image_more (g.F.Formula.meaning c.args.f.now) (meant c.args.card.now) c.args.j _ c.loop-i.i _ c.image_at.result c.insert.result
    (g.F.Formula.formed c.args.f.now) (omega arith) c.image_at.ensures c.insert.ensures.literal c.insert.ensures.added c.loop-i.invariant

pub returns : goal.returns
returns g c =
    let m = g.F.Formula.meaning c.args.f.now in
    let card = meant c.args.card.now in
    let all = image_all m card c.args.j _ c.loop-i.i (omega arith) c.loop-i.invariant in
    record { literals = all; among = among_sorted m (members c.loop-i.set.words) (map (act card) (clause_of m c.args.j)) all }
