use Rattle.std.proofs.Common.{◌≡◌, ℕ, Bool, ◌+◌, ◌-◌, eqb, rules, arith}
use Rattle.std.proofs.lemmas.Bool.{eq-eqb, ne_eqb}
use Rattle.calculus.specs.Meaning.{level_of}
use Rattle.writer.specs.Written.{variable_text}
use Rattle.writer.proofs.Pens.{put_then, put_kept, put_left}
use Rattle.writer.proofs.Ranges.{begins}
use Rattle.writer.proofs.levels.put_variables.Goals as goal
use Rattle.writer.proofs.levels.put_variables.Goals.{then-from-k, else-from-k}

pub loop-v-init : goal.loop-v-init
loop-v-init g c =
    let m = g.F.Formula.meaning c.args.f.now in
    let b = begins (λ v. eqb (level_of m v) c.args.k) m.n c.first_variable.result c.first_variable.ensures in
    rw c.unwrap_or-first.ensures (b.0, b.1, rw b.2 (search rules))

pub loop-v-preserved : goal.loop-v-preserved
loop-v-preserved g c =
    let m = g.F.Formula.meaning c.args.f.now in
    let test : ℕ → Bool = λ v. eqb (level_of m v) c.args.k in
    let put = c.loop-v.invariant.2 in
    let e : c.loop-v.v + 1 - 1 ≡ c.loop-v.v = omega arith in (
      omega arith,
      omega arith,
      rw e
          (elim c.if-from-k.branch [
            | then-from-k w ↦ rw w.pen-is (put_kept test variable_text c.loop-v.v (omega arith) (eq-eqb (level_of m c.loop-v.v) c.args.k (omega arith)) put (put_then w.put_space.ensures w.put_number.ensures))
            | else-from-k w ↦ rw w.pen-is (put_left test variable_text c.loop-v.v (omega arith) (ne_eqb (level_of m c.loop-v.v) c.args.k (omega arith)) put)
          ]),
    )

pub returns : goal.returns
returns g c =
    let e : c.loop-v.v - 1 ≡ (g.F.Formula.meaning c.args.f.now).n = omega arith in
    rw e at c.loop-v.invariant.2
