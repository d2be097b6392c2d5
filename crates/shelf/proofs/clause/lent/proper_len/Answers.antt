use Rattle.std.proofs.Common.{sym, ap, arith}
use Rattle.calculus.specs.Literals.{var}
use Rattle.shelf.proofs.clause.lent.proper_len.Goals as goal
use Rattle.shelf.proofs.Climbing.{climbs_more, last_more}
use Rattle.shelf.proofs.Fronts.{front_stops, front_all}

pub returns-then-variable-last : goal.returns-then-variable-last
returns-then-variable-last c =
    let f = front_stops c.args.codes.now c.loop-i.i c.loop-i.last c.loop-i-test.true c.loop-i.invariant c.then-variable-last.either in
    record { within = c.loop-i.auto.i-end; proper = ∣ f.proper ∣₁; longest = f }

pub loop-i-preserved : goal.loop-i-preserved
loop-i-preserved c = (
  climbs_more 1 c.loop-i.i c.args.codes.now c.loop-i-test.true c.loop-i.invariant.0 (omega (arith, c.loop-i.invariant.1)) (omega arith),
  ap var (sym (last_more 1 c.loop-i.i c.args.codes.now c.loop-i-test.true)),
)

pub returns : goal.returns
returns c =
    let f = front_all c.args.codes.now c.loop-i.i c.loop-i-test.false c.loop-i.invariant.0 in
    record { within = omega arith; proper = ∣ f.proper ∣₁; longest = f }
