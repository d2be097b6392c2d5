use Rattle.std.proofs.Common.{◌≡◌, ◌^◌, ◌<◌, drop}
use Rattle.words.specs.Tokens.{digits_after}
use Rattle.words.proofs.spelling.digits_value.Given as goal

abbrev pub invariant-loop-b : goal.invariant-loop-b
invariant-loop-b l = (l.v < 10 ^ l.b-index) × (digits_after l.v (drop l.b-index l.s) ≡ digits_after 0 l.s)
