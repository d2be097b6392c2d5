use Rattle.std.proofs.Common.{arith}
use Rattle.cards.specs.Meant.{meant}
use Rattle.cards.proofs.Outcomes.{faultless}
use Rattle.mirroring.proofs.Negations.{lawful, negates, ok_only}
use Rattle.mirroring.proofs.negation.negation.Goals as goal

pub unwrap-requires : goal.unwrap-requires
unwrap-requires c =
    ok_only c.from_pairs.result _ _ c.from_pairs.ensures
    (faultless _ (lawful c.negations-pairs.result c.args.n c.requires (omega arith) c.negations-pairs.ensures))

pub returns : goal.returns
returns c =
    negates c.negations-pairs.result c.args.n c.requires (omega arith) c.negations-pairs.ensures (meant c.unwrap.result)
    (rw c.unwrap.ensures at c.from_pairs.ensures)
