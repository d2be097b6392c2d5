use Rattle.std.proofs.Common.{sym, refl, ◌∙◌, arith}
use Rattle.reading.specs.Stands.{sizes}
use Rattle.reading.proofs.Letters.{late, turning, few, opened}
use Rattle.reading.proofs.state.State.open_block.Goals as goal
use Rattle.reading.proofs.state.State.open_block.Goals.{then-self-gt0-via-then-self-gt0, then-self-gt0-via-else-self-gt0+then-self-gt0-2}

pub returns-then-self-gt0 : goal.returns-then-self-gt0
returns-then-self-gt0 c t letter q d ls es lawful stands =
    late (sizes ls es) d t letter (sym c.requires ∙ stands.stage)
    (
    elim c.then-self-gt0.branch [
      | then-self-gt0-via-then-self-gt0 w ↦ omega (arith, w.if-self-gt0.true, stands.clauses)
      | then-self-gt0-via-else-self-gt0+then-self-gt0-2 w ↦ omega (arith, w.if-self-gt0-2.true, stands.open_count)
    ]
    )

pub returns : goal.returns
returns c t letter q d ls es lawful stands =
    let at = sym c.requires ∙ stands.stage in
    let is = q ∙ sym c.number-quantifier.ensures in (
      turning (sizes ls es) d t letter at (omega arith) (λ e. omega (arith, is, e, stands.latest)),
      opened c.args.self.now _ ls es t letter
          (record {
            stage = refl;
            n = refl;
            m = refl;
            bindings = refl;
            level = omega (arith, few (sizes ls es) d t letter at lawful, stands.blocks);
            quantifier = sym is;
            clauses = refl;
            literals = refl;
            open_count = refl;
          })
          d at (omega arith) stands,
    )
