use Rattle.symmetry.proofs.Found.{set_for}
use Rattle.symmetry.proofs.among.set_for.Goals as goal

pub returns : goal.returns
returns g c = set_for (g.F.Formula.meaning c.args.f.now) (g.F.Formula.formed c.args.f.now) c.args.codes.now c.of.result c.of.ensures
