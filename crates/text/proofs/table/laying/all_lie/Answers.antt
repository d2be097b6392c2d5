use Rattle.std.proofs.Common.{rules, ◌∙◌}
use Rattle.std.proofs.lemmas.Iterator.{YieldsList-from_slice}
use Rattle.text.proofs.Folding.{folds_while_lying}
use Rattle.text.proofs.table.laying.all_lie.Goals as goal

pub returns : goal.returns
returns c =
    c.is_some.ensures ∙
    folds_while_lying c.args.prefix.now.n c.args.literals.now c.args.ends.now 0 c.try_fold.result _ _ (λ e r h. h) c.try_fold.ensures.ran
    (YieldsList-from_slice c.args.ends.now c.iter.ensures.rest) (λ from x w q k. search rules)
