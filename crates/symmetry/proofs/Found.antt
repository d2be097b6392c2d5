-- A set is looked up among the clauses by its ascending list.
use Rattle.std.proofs.Common.{◌≡◌, ℕ, ◌<◌, ◌↔◌, List, [], length, Some, None, Option, sym, ap, ◌∙◌, subst, MatchOption}
use Rattle.std.specs.List.{AllByRecursion}
use Rattle.calculus.specs.Sets.{Same}
use Rattle.calculus.specs.Meaning.{Meaning, Formed, Code, clause_of}
use Rattle.laws.specs.Cards.{Among}
use Rattle.laws.specs.Claims.{sorted}
use Rattle.laws.proofs.Sets.{get_or_in, place_of, in_sorted, from_sorted}
use Rattle.laws.proofs.Ascending.{asc_sorted, asc_same}
use Rattle.sets.specs.Members.{members}
use Rattle.sets.specs.declared.set.LiteralSet.{LiteralSet}
use Rattle.sets.proofs.Elements.{asc_members}
use Rattle.symmetry.proofs.Codes.{among_codes}

-- a sorted list has the elements of the list
same_from : (ms C : List ℕ) → ms ≡ sorted C → Same ms C
same_from ms C e = subst (λ ns. Same ns C) (sym e) (λ l. (from_sorted l C, in_sorted l C))

-- a list as a set may be replaced by another
among_as : (m : Meaning) (C D : List ℕ) → Same C D → Among m C → Among m D
among_as m C D s a = (a.0, a.1, λ l. (λ i. (a.2 l).0 ((s l).1 i), λ i. (s l).0 ((a.2 l).1 i)))

-- so may a list by its sorted one
pub among_sorted : (m : Meaning) (ms C : List ℕ) → ms ≡ sorted C → Among m ms ↔ Among m C
among_sorted m ms C e = (among_as m ms C (same_from ms C e), among_as m C ms (λ l. ((same_from ms C e l).1, (same_from ms C e l).0)))

module _ (m : Meaning) (words : List ℕ) where
  pub found : (j : ℕ) × (j < length m.clauses) × (members words ≡ sorted (clause_of m j)) → Among m (members words)
  found (j, h, e) = (clause_of m j, get_or_in m.clauses j [] h, same_from (members words) (clause_of m j) e)

  pub place : Among m (members words) → (j : ℕ) × (j < length m.clauses) × (members words ≡ sorted (clause_of m j))
  place (C, i, s) =
      let p : (j : ℕ) × (j < length m.clauses) × (clause_of m j ≡ C) = place_of C m.clauses [] i in (
        p.0,
        p.1,
        asc_same (members words) (sorted C) (asc_members words) (asc_sorted C) (λ l. (λ k. in_sorted l C ((s l).0 k), λ k. (s l).1 (from_sorted l C k))) ∙ ap sorted (sym p.2),
      )

-- the set of a list of codes is looked up for the list; where there is none, no clause has the codes
pub set_for :
    (m : Meaning) (formed : Formed m) (C : List ℕ) (set : Option LiteralSet) →
    MatchOption set (AllByRecursion (Code 512) C → ⊥) (λ s. AllByRecursion (Code 512) C × (members s.words ≡ sorted C)) →
    MatchOption set (Among m C → ⊥) (λ s. Among m (members s.words) ↔ Among m C)
set_for m formed C None h = λ a. h (among_codes m formed C a)
set_for m formed C (Some s) h = among_sorted m (members s.words) C h.1
