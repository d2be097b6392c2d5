-- A product within the capacity, as a quotient: the product could be too large to count, the quotient is not.
use Rattle.std.proofs.Common.{ℕ, ◌*◌, ◌/◌, ◌<◌, ◌≤◌, ◌↔◌, mul_comm, le-div_iff_mul-le, mul-le-mul_right, arith}

pub quotient_is : (capacity clauses weight : ℕ) → 0 < clauses → (weight ≤ capacity / clauses) ↔ (clauses * weight ≤ capacity)
quotient_is capacity clauses weight some =
    let both = le-div_iff_mul-le {k = clauses} {x = weight} {y = capacity} some in
    (λ h. rw (mul_comm clauses weight) (both.0 h), λ h. both.1 (rw (mul_comm clauses weight) at h))

-- one weighs no more than all
pub one_is_lighter : (clauses weight : ℕ) → 0 < clauses → weight ≤ clauses * weight
one_is_lighter clauses weight some = omega (arith, mul-le-mul_right weight some)
