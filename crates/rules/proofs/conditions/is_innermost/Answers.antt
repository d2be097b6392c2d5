use Rattle.std.proofs.Common.{ℕ, rules, ◌∙◌, ap}
use Rattle.std.proofs.lemmas.Iterator.{YieldsList-from_slice}
use Rattle.std.proofs.lemmas.Iterator.Search.{all_from_yields_List}
use Rattle.laws.specs.Claims.{every}
use Rattle.rules.specs.Depth.{outside}
use Rattle.rules.proofs.Depth.{innermost_is}
use Rattle.rules.proofs.Scanning.{all_every}
use Rattle.rules.proofs.conditions.is_innermost.Goals as goal

pub returns : goal.returns
returns g c =
    let m = g.F.Formula.meaning c.args.f.now in
    let C = c.args.parent.codes.now in
    let test = outside m c.level-level.result in
    let is =
    all_from_yields_List test _ _ c.all.result c.all.ensures.ran (YieldsList-from_slice C (c.iter.ensures.rest ∙ c.codes.ensures)) (λ x b q k. search rules)
    ∙ all_every test C
    ∙ ap (λ (k : ℕ). every (outside m k) C) c.level-level.ensures in
    record { test = is; meaning = innermost_is m _ c.args.v _ is }
