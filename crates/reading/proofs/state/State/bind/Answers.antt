use Rattle.std.proofs.Common.{sym, refl, ◌∙◌, inl, inr, arith}
use Rattle.reading.specs.Stands.{sizes}
use Rattle.reading.proofs.Gaps.{level_is}
use Rattle.reading.proofs.Bindings.{misbound, well_bound, bound}
use Rattle.reading.proofs.state.State.bind.Goals as goal
use Rattle.reading.proofs.state.State.bind.Goals.{then-v-self-via-then-v-self, then-v-self-via-else-v-self+then-self-v-ne0}

pub returns-then-v-self : goal.returns-then-v-self
returns-then-v-self c t natural is some d ls es lawful stands =
    misbound (sizes ls es) d t c.args.v natural is some (sym c.requires.1 ∙ stands.stage)
    (
    elim c.then-v-self.branch [
      | then-v-self-via-then-v-self w ↦ inl (omega (arith, w.if-v-self.true, stands.n))
      | then-v-self-via-else-v-self+then-self-v-ne0 w ↦ inr (λ e. w.if-self-v-ne0.true (sym (level_is c.args.self.now.bindings c.args.v _ (omega arith)) ∙ stands.levels c.args.v ∙ e))
    ]
    )

pub returns : goal.returns
returns c t natural is some d ls es lawful stands =
    let at = sym c.requires.1 ∙ stands.stage in (
      well_bound (sizes ls es) d t c.args.v natural is some at (omega (arith, c.if-v-self.false, stands.n))
          (sym (stands.levels c.args.v) ∙ level_is c.args.self.now.bindings c.args.v _ (omega arith) ∙ c.if-self-v-ne0.false),
      bound c.args.self.now _ ls es t c.args.v natural is some
          (record {
            stage = refl;
            n = refl;
            m = refl;
            bindings = refl;
            latest_is = refl;
            clauses = refl;
            literals = refl;
            open_count = refl;
          })
          (omega arith) d at stands,
    )
