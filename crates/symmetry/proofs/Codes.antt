-- Clauses hold literals only.
use Rattle.std.proofs.Common.{ℕ, List, arith}
use Rattle.std.specs.List.{AllByRecursion}
use Rattle.calculus.specs.Sets.{◌∈◌}
use Rattle.calculus.specs.Literals.{var}
use Rattle.calculus.specs.Meaning.{Meaning, Formed, Variable, Code}
use Rattle.laws.specs.Cards.{Among}
use Rattle.laws.proofs.Formedness.{codes, all_from}

module _ (m : Meaning) (formed : Formed m) where
  member_code : (C : List ℕ) (l : ℕ) → C ∈ m.clauses → l ∈ C → Code 512 l
  member_code C l i j =
      let b : Variable m.n (var l) = codes m formed C l i j in
      (omega (arith, b.0), omega (arith, b.1, formed.prefix.few))

  -- a list that is, as a set, among the clauses holds literals only
  pub among_codes : (C : List ℕ) → Among m C → AllByRecursion (Code 512) C
  among_codes C a = all_from (Code 512) C (λ l i. member_code a.0 l a.1 ((a.2 l).0 i))
