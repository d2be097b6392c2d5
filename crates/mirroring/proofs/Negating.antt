-- What a card that negates every variable does to a formula.
use Rattle.std.proofs.Common.{◌≡◌, ℕ, ◌+◌, ◌*◌, ◌%◌, ◌≤◌, List, [], ◌∷◌, map, length, sum_by, refl, ap, ◌∙◌, ⊎_elim, arith}
use lib.ListN.{length-map}
use Rattle.std.proofs.ByRecursion.{All-map, All-weaker}
use Rattle.std.proofs.lemmas.List.Sums.{sum_by-cons}
use Rattle.std.proofs.lemmas.Bool.{cases_eq}
use Rattle.calculus.specs.Literals.{var, neg}
use Rattle.calculus.specs.Meaning.{Meaning, Formed, Variable, Code, Clause}
use Rattle.laws.specs.Cards.{Card, image_of, act}
use Rattle.laws.proofs.Exchange.{act_even, act_odd}
use Rattle.laws.proofs.Formedness.{codes}
use Rattle.laws.proofs.Sets.{neg_is}
use Rattle.images.specs.Imaged.{imaged}
use Rattle.images.proofs.Admitted.{map_same}
use Rattle.writer.specs.Back.{FitsLimits}
use Rattle.writer.specs.Short.{longest}
use Rattle.writer.specs.Written.{written}
use Rattle.writer.proofs.Lengths.{written_short}
use Rattle.mirroring.specs.Negation.{negated, Negates}

module _ (n : ℕ) (card : Card) (negates : Negates n card) where
  -- each literal goes to its negation
  acts : (l : ℕ) → Variable n (var l) → act card l ≡ neg l
  acts l b =
      let e : image_of card (var l) ≡ 2 * var l + 1 = negates.0 (var l) b in
      ⊎_elim (λ even. act_even card l even ∙ (e ∙ omega (arith, neg_is l)))
      (λ odd. act_odd card l odd ∙ (ap neg e ∙ omega (arith, neg_is l, neg_is (2 * var l + 1)))) (cases_eq (l % 2) 0)

module _ (m : Meaning) (formed : Formed m) where
  pub image_negated : (card : Card) → Negates m.n card → (image : Meaning) → image ≡ imaged card m → image ≡ negated m
  image_negated card negates image e =
      e
      ∙ ap (λ (Cs : List (List ℕ)). let r : Meaning = record { n = m.n; levels = m.levels; quantifiers = m.quantifiers; clauses = Cs } in r)
      (map_same (map (act card)) (map neg) m.clauses (λ C i. map_same (act card) neg C (λ l j. acts m.n card negates l (codes m formed C l i j))))

  code_negated : (l : ℕ) → Code m.n l → Code m.n (neg l)
  code_negated l c = (omega (arith, neg_is l, c.0), omega (arith, neg_is l, c.1))

  clause_negated : (C : List ℕ) → Clause m.n C → Clause m.n (map neg C)
  clause_negated C c =
      (omega (arith, c.0, length-map C neg), All-map (Code m.n) neg C (All-weaker (Code m.n) (λ l. Code m.n (neg l)) code_negated C c.1))

  negated_formed : Formed (negated m)
  negated_formed = record {
    prefix = formed.prefix;
    few_clauses = omega (arith, formed.few_clauses, length-map m.clauses (map neg));
    clauses = All-map (Clause m.n) (map neg) m.clauses
        (All-weaker (Clause m.n) (λ C. Clause m.n (map neg C)) clause_negated m.clauses formed.clauses);
  }

-- as many literals as before
total_negated : (Cs : List (List ℕ)) → sum_by length (map (map neg) Cs) ≡ sum_by length Cs
total_negated [] = refl
total_negated (C ∷ Cs) =
    omega (arith, sum_by-cons length C Cs, sum_by-cons length (map neg C) (map (map neg) Cs), length-map C neg, total_negated Cs)

negated_within : (m : Meaning) → FitsLimits m → FitsLimits (negated m)
negated_within m few = omega (arith, total_negated m.clauses)

-- in as many bytes at most when its literals are negated
pub negated_short : (m : Meaning) → Formed m → FitsLimits m → length (written (negated m)) ≤ longest
negated_short m formed few = written_short (negated m) (negated_formed m formed) (negated_within m few)
