use Rattle.std.proofs.Common.{◌≡◌, take}
use Rattle.calculus.specs.Literals.{var}
use Rattle.shelf.proofs.Climbing.{Climbs, last_code}
use Rattle.shelf.proofs.clause.lent.proper_len.Given as goal

abbrev pub invariant-loop-i : goal.invariant-loop-i
invariant-loop-i l = Climbs 1 (take l.i l.codes) × (l.last ≡ var (last_code 1 (take l.i l.codes)))
