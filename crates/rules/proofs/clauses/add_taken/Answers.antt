use Rattle.std.proofs.Common.{ap, ◌∙◌, arith}
use Rattle.sets.specs.Members.{members}
use Rattle.rules.proofs.Building.{code_at, taken_none, taken_passed, taken_added, taken_all}
use Rattle.rules.proofs.clauses.add_taken.Goals as goal
use Rattle.rules.proofs.clauses.add_taken.Goals.{in-Some, in_default}

pub loop-code-init : goal.loop-code-init
loop-code-init g c h takes = taken_none h c.args.set.now.words

pub loop-code-preserved : goal.loop-code-preserved
loop-code-preserved g c h takes =
    let S = members c.args.set.now.words in
    let xs = c.codes-codes.result.now in
    let i = c.loop-code.code-index in
    let code = code_at _ xs i c.args.clause.proper c.codes-codes.ensures (omega arith) in
    elim c.match-taken.branch [
      | in-Some w ↦ let t = takes _ _ code w.in-Some.ensures in
          taken_added h S xs _ i (c.loop-code.invariant h takes) _ _ (omega arith) t.0 (ap (λ s. members s.words) w.set-is ∙ w.insert.ensures.added (w.insert.ensures.literal.1 t.1))
      | in_default w ↦ ap (λ s. members s.words) w.set-is ∙ taken_passed h S xs _ i (c.loop-code.invariant h takes) (omega arith) (takes _ _ code w.in_default.ensures).0
    ]

pub returns : goal.returns
returns g c h takes =
    taken_all h (members c.args.set.now.words) c.codes-codes.result.now _ c.loop-code.code-index (c.loop-code.invariant h takes) _ c.codes-codes.ensures (omega arith)
