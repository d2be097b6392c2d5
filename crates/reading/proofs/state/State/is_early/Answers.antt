use Rattle.std.proofs.Common.{◌≡◌, true, ◌&&◌, sym, ap, ◌∙◌, arith}
use Rattle.std.proofs.lemmas.Bool.{eq-eqb, eqb-true}
use Rattle.grammar.specs.Fault.{unbegun, unbound}
use Rattle.reading.specs.Bindings.{levels_of}
use Rattle.reading.specs.Stands.{n_of, blocks_of, clauses_of, open_of}
use Rattle.reading.proofs.Gaps.{gap_is_unbound}
use Rattle.reading.proofs.state.State.is_early.Goals as goal
use Rattle.reading.proofs.state.State.is_early.Goals.{then-self-eq0, else-self-eq0}

pub returns-then-self-eq0-2 : goal.returns-then-self-eq0-2
returns-then-self-eq0-2 c d ls es stands =
    let none : unbegun (clauses_of d) (open_of d) ≡ true =
    elim c.if-self-eq0.branch [
      | then-self-eq0 w ↦ eq-eqb _ 0 (omega (arith, w.if-self-eq0.true, eqb-true c.args.self.now.tail 0 (sym w.value-is ∙ c.if-self-eq0-2.true), stands.clauses, stands.open_count))
      | else-self-eq0 w ↦ absurd (w.if-self-eq0.false (eqb-true c.args.self.now.clauses 0 (sym w.value-is ∙ c.if-self-eq0-2.true)))
    ] in
    c.has_gap.ensures ∙ gap_is_unbound (levels_of c.args.self.now.bindings) (blocks_of d) stands.levels c.args.self.now.n ∙
    ap (unbound (blocks_of d)) stands.n ∙ sym (ap (λ x. x && unbound (blocks_of d) (n_of d)) none)
