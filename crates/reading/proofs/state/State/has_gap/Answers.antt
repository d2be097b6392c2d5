use Rattle.std.proofs.Common.{rules, ◌∙◌, arith}
use Rattle.std.proofs.lemmas.Iterator.{YieldsList-from_slice}
use Rattle.std.proofs.lemmas.Iterator.Search.{any_from_yields_List}
use Rattle.reading.proofs.Gaps.{unleveled, any_gap}
use Rattle.reading.proofs.state.State.has_gap.Goals as goal

pub returns : goal.returns
returns c =
    let s = c.args.self.now in
    any_from_yields_List unleveled _ _ c.any.result c.any.ensures.ran (YieldsList-from_slice _ c.iter.ensures.rest) (λ b r q k. search rules)
    ∙ any_gap s.bindings _ s.n (omega arith) (omega arith)
