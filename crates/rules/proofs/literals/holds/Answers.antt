use Rattle.std.proofs.Common.{eqb, rules, ◌∙◌}
use Rattle.std.proofs.lemmas.Iterator.{YieldsList-from_slice}
use Rattle.std.proofs.lemmas.Iterator.Search.{any_from_yields_List}
use Rattle.rules.specs.Literal.{code_of}
use Rattle.rules.proofs.Scanning.{any_has, has_is}
use Rattle.rules.proofs.literals.holds.Goals as goal

pub returns : goal.returns
returns c =
    let l = code_of c.args.literal in
    let C = c.args.clause.codes.now in
    let is =
    any_from_yields_List (eqb l) _ _ c.any.result c.any.ensures.ran (YieldsList-from_slice C (c.iter.ensures.rest ∙ c.codes.ensures)) (λ x b q k. search rules)
    ∙ any_has l C in
    record { test = is; meaning = has_is _ _ _ is }
