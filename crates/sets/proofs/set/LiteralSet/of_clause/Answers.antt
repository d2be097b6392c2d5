use Rattle.std.proofs.Common.{sym, ap, ◌∙◌, subst, arith}
use Rattle.std.proofs.lemmas.List.{take_all}
use Rattle.calculus.specs.Meaning.{Code, clause_of}
use Rattle.laws.specs.Claims.{sorted}
use Rattle.sets.proofs.Sorted.{sorted_more, clause_code}
use Rattle.sets.proofs.set.LiteralSet.of_clause.Goals as goal

pub loop-i-preserved : goal.loop-i-preserved
loop-i-preserved g c =
    let m = g.F.Formula.meaning c.args.f.now in
    let h = c.insert.ensures.literal.1 (subst (Code 512) (sym c.literal.ensures) (clause_code m (g.F.Formula.formed c.args.f.now) c.args.j c.loop-i.i (omega (arith, c.clause_len-i-end.ensures)))) in
    sorted_more (clause_of m c.args.j) _ _ c.loop-i.i _ (omega (arith, c.clause_len-i-end.ensures)) c.literal.ensures c.loop-i.invariant (c.insert.ensures.added h)

pub returns : goal.returns
returns g c =
    c.loop-i.invariant
    ∙ ap sorted (take_all c.loop-i.i (clause_of (g.F.Formula.meaning c.args.f.now) c.args.j) (omega (arith, c.clause_len-i-end.ensures)))
