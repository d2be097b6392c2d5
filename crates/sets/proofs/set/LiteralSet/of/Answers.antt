use Rattle.std.proofs.Common.{ap, ◌∙◌, subst, arith}
use Rattle.std.specs.List.{AllByRecursion}
use Rattle.std.proofs.ByRecursion.{All-more}
use Rattle.std.proofs.lemmas.List.{take_all}
use Rattle.calculus.specs.Meaning.{Code}
use Rattle.laws.specs.Claims.{sorted}
use Rattle.sets.proofs.Sorted.{sorted_more}
use Rattle.sets.proofs.set.LiteralSet.of.Goals as goal

pub loop-code-preserved : goal.loop-code-preserved
loop-code-preserved c =
    let codes = c.args.codes.now in
    let i = c.loop-code.code-index in
    let l = c.in_ok-of.field-0 in (
      All-more (Code 512) codes i 0 (omega arith) c.loop-code.invariant.0 (subst (Code 512) c.in_ok-of.ensures l.literal),
      sorted_more codes _ _ i l.code (omega arith) c.in_ok-of.ensures c.loop-code.invariant.1 c.add.ensures,
    )

pub returns : goal.returns
returns c =
    let whole = take_all c.loop-code.code-index c.args.codes.now (omega arith) in
    (subst (AllByRecursion (Code 512)) whole c.loop-code.invariant.0, c.loop-code.invariant.1 ∙ ap sorted whole)
