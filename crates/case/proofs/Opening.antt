-- A case as it is opened stands where no calls lead.
use Rattle.std.proofs.Common.{[], refl}
use Rattle.calculus.specs.Meaning.{Meaning}
use Rattle.laws.specs.Runs.{run_from}
use Rattle.shelf.specs.Shelved.{Shelved}
use Rattle.case.specs.Claimed.{After}
use Rattle.case.specs.Standing.{opened}

pub opened_after : (m : Meaning) (s : Shelved) → After [] (opened m s)
unfolding run_from
opened_after m s = record { kept = refl; refuted = refl }
