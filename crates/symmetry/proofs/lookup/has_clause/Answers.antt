use Rattle.std.proofs.Common.{◌≡◌, ℕ, length, rules, arith}
use Rattle.std.proofs.lemmas.Bool.Decides.{Decides-like}
use Rattle.std.proofs.lemmas.Iterator.{cases_from_any, YieldsList-from_range}
use Rattle.calculus.specs.Meaning.{clause_of}
use Rattle.laws.specs.Claims.{sorted}
use Rattle.sets.specs.Members.{members}
use Rattle.symmetry.proofs.Counting.{some_below}
use Rattle.symmetry.proofs.Found.{found, place}
use Rattle.symmetry.proofs.lookup.has_clause.Goals as goal

pub returns : goal.returns
returns g c =
    let m = g.F.Formula.meaning c.args.f.now in
    let words = c.args.set.now.words in
    let P : ℕ → Type 0 = λ j. members words ≡ sorted (clause_of m j) in
    Decides-like _ (found m words) (place m words) (some_below P (length m.clauses) _
    (cases_from_any _ _ c.any.result P (λ j. P j → ⊥) c.any.ensures.ran (YieldsList-from_range 0 c.clause_count.result (length m.clauses) (search rules) (omega arith)) (λ x q k. search rules) (λ x q k. search rules)))
