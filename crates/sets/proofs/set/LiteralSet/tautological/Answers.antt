use Rattle.std.proofs.Common.{rules}
use Rattle.std.proofs.lemmas.Bool.Decides.{Decides-at}
use Rattle.std.proofs.lemmas.Iterator.{YieldsList-from_slice}
use Rattle.std.proofs.lemmas.Iterator.Search.{any_from_yields_List}
use Rattle.sets.proofs.Pairs.{paired, any_pair}
use Rattle.sets.proofs.set.LiteralSet.tautological.Goals as goal

pub returns : goal.returns
returns c =
    let v = c.args.self.now in
    Decides-at _ _ (any_from_yields_List paired _ _ _ c.any.ensures.ran (YieldsList-from_slice v.words cc) (λ x b q k. search rules))
    (any_pair v.words v.long v.small)
