use Rattle.std.proofs.Common.{refl}
use Rattle.calculus.specs.Truth.{won, truth}
use Rattle.calculus.proofs.Examples.{pair_formed, turned_formed}
use Rattle.calculus.proofs.examples_stand.Goals as goal

pub returns : goal.returns
unfolding won truth
returns c = (pair_formed, refl, turned_formed, refl)
