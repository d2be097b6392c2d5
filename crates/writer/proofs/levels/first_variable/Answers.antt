use Rattle.std.proofs.Common.{rules, eqb}
use Rattle.std.proofs.iter.runs.Sources.{ranges}
use Rattle.calculus.specs.Meaning.{level_of}
use Rattle.writer.proofs.Ranges.{FirstOf, first_kept}
use Rattle.writer.proofs.levels.first_variable.Goals as goal

pub returns : goal.returns
returns g c =
    let m = g.F.Formula.meaning c.args.f.now in
    let found : FirstOf (λ v. eqb (level_of m v) c.args.k) 1 m.n c.find.result = search (rules, ranges) in
    first_kept (λ v. eqb (level_of m v) c.args.k) 1 m.n c.find.result found
