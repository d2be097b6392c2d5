use Rattle.std.proofs.Common.{ℕ, length, map, rules, arith}
use Rattle.std.proofs.lemmas.Bool.Decides.{Decides-like}
use Rattle.std.proofs.lemmas.Iterator.{cases_from_all, YieldsList-from_range}
use Rattle.calculus.specs.Meaning.{clause_of}
use Rattle.laws.specs.Cards.{act, Among}
use Rattle.cards.specs.Meant.{meant}
use Rattle.symmetry.proofs.Counting.{all_below}
use Rattle.symmetry.proofs.Places.{each_clause, each_place}
use Rattle.symmetry.proofs.carrying.carries.Goals as goal

pub returns : goal.returns
returns g c =
    let m = g.F.Formula.meaning c.args.f.now in
    let card = meant c.args.card.now in
    let P : ℕ → Type 0 = λ j. Among m (map (act card) (clause_of m j)) in
    Decides-like _ (each_clause (λ C. Among m (map (act card) C)) m) (each_place (λ C. Among m (map (act card) C)) m) (all_below P (length m.clauses) _
    (cases_from_all _ _ c.all.result P (λ j. P j → ⊥) c.all.ensures.ran (YieldsList-from_range 0 c.clause_count.result (length m.clauses) (search rules) (omega arith)) (λ x q k. search rules) (λ x q k. search rules)))
