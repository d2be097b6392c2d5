-- The image of a formula under an admissible card is well formed.
use Rattle.std.specs.Prelude.{ℕ, List, map}
use Rattle.std.proofs.Common.{arith}
use Rattle.std.proofs.Math.Logic.{∥∥₁_elim}
use Rattle.std.proofs.lemmas.List.{length-map}
use Rattle.std.proofs.ByRecursion.{All-map}
use Rattle.calculus.specs.Sets.{◌∈◌}
use Rattle.calculus.specs.Literals.{var}
use Rattle.calculus.specs.Meaning.{Meaning, Formed, Variable, Code, Clause, formed_prop}
use Rattle.laws.specs.Cards.{Card, act, Admissible}
use Rattle.laws.proofs.Exchange.{act_levels}
use Rattle.laws.proofs.Formedness.{all_in, all_from, codes, level_variable}
use Rattle.images.specs.Imaged.{imaged}

module _ (card : Card) (m : Meaning) (formed : Formed m) (fits : Admissible m card) where
  -- the image of a literal of the formula is over a variable of the formula
  image_code : (C : List ℕ) (l : ℕ) → C ∈ m.clauses → l ∈ C → Code m.n (act card l)
  image_code C l i j =
      let b : Variable m.n (var (act card l)) = level_variable m formed (var l) (var (act card l)) (act_levels m card fits l) (codes m formed C l i j) in
      (omega (arith, b.0), omega (arith, b.1))

  image_clause : (C : List ℕ) → C ∈ m.clauses → Clause m.n (map (act card) C)
  image_clause C i = (
    omega (arith, length-map C (act card), (all_in (Clause m.n) m.clauses C formed.clauses i).0),
    All-map (Code m.n) (act card) C (all_from (λ l. Code m.n (act card l)) C (λ l j. image_code C l i j)),
  )

  imaged_formed : Formed (imaged card m)
  imaged_formed = record {
    prefix = formed.prefix;
    few_clauses = omega (arith, formed.few_clauses, length-map m.clauses (map (act card)));
    clauses = All-map (Clause m.n) (map (act card)) m.clauses (all_from (λ C. Clause m.n (map (act card) C)) m.clauses image_clause);
  }

pub image_formed : (card : Card) (m : Meaning) → Formed m → ∥ Admissible m card ∥₁ → Formed (imaged card m)
image_formed card m formed fits = ∥∥₁_elim fits (formed_prop (imaged card m)) (imaged_formed card m formed)
