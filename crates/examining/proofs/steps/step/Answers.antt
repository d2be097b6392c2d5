use Rattle.std.proofs.Common.{◌+◌, ◌≤◌, length, arith}
use Rattle.examining.proofs.Readings.{ends_within}
use Rattle.examining.proofs.steps.step.Goals as goal

pub overflow_add-result : goal.overflow_add-result
overflow_add-result g c =
    let within : c.args.at + c.byte_count.result ≤ length c.args.docket.now =
    ends_within c.args.docket.now c.args.at _ _ (λ k. omega (arith, c.type_inv.docket k)) c.in_ok-line.ensures.0 c.in_ok-line.ensures.1 c.byte_count.ensures in
    omega arith
