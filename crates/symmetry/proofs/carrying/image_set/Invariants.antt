use Rattle.std.proofs.Common.{◌≡◌, map, take}
use Rattle.calculus.specs.Meaning.{clause_of}
use Rattle.laws.specs.Cards.{act}
use Rattle.laws.specs.Claims.{sorted}
use Rattle.cards.specs.Meant.{meant}
use Rattle.sets.specs.Members.{members}
use Rattle.symmetry.proofs.carrying.image_set.Given as goal

abbrev pub invariant-loop-i : goal.invariant-loop-i
invariant-loop-i g l = members l.set.words ≡ sorted (take l.i (map (act (meant l.card)) (clause_of (g.F.Formula.meaning l.f) l.j)))
