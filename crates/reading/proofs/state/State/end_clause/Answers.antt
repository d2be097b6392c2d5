use Rattle.std.proofs.Common.{sym, refl, ◌∙◌, arith}
use Rattle.reading.specs.Stands.{sizes}
use Rattle.reading.proofs.Clauses.{with_end}
use Rattle.reading.proofs.Numbers.{end_fits}
use Rattle.reading.proofs.state.State.end_clause.Goals as goal

pub returns : goal.returns
returns c t natural none ls d lawful stands =
    let at = sym c.requires ∙ stands.stage in (
      end_fits (sizes ls c.args.ends.now) d at t natural none (sym (c.if-is_early.ensures d ls c.args.ends.now stands)) (omega (arith, c.if-self.false, stands.clauses, stands.m)),
      with_end c.args.self.now _ ls c.args.ends.now
          (record { stage = refl; n = refl; m = refl; bindings = refl; latest_is = refl }) t d at natural none
          (omega arith) refl refl refl stands,
    )
