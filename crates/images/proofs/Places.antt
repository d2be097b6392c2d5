-- What stands where in the clauses of an image.
use Rattle.std.proofs.Common.{◌≡◌, ℕ, zero, suc, List, [], ◌∷◌, map, length, get_or, sym, refl, ap, ◌∙◌}
use Rattle.std.proofs.lemmas.List.{length-map}
use Rattle.calculus.specs.Meaning.{Meaning, clause_of, literal_of}
use Rattle.laws.specs.Cards.{Card, act}
use Rattle.laws.proofs.Exchange.{act_double}
use Rattle.images.specs.Imaged.{imaged}

-- what a map takes the default to, it takes from past the end
get_or_mapped : {A B : Type 0} (f : A → B) (xs : List A) (i : ℕ) (d : A) (e : B) → f d ≡ e → get_or (map f xs) i e ≡ f (get_or xs i d)
get_or_mapped f [] i d e h = sym h
get_or_mapped f (x ∷ xs) zero d e h = refl
get_or_mapped f (x ∷ xs) (suc i) d e h = get_or_mapped f xs i d e h

module _ (card : Card) (m : Meaning) where
  clause_is : (j : ℕ) → clause_of (imaged card m) j ≡ map (act card) (clause_of m j)
  clause_is j = get_or_mapped (map (act card)) m.clauses j [] [] refl

  pub count_is : length (imaged card m).clauses ≡ length m.clauses
  count_is = length-map m.clauses (map (act card))

  pub length_is : (j : ℕ) → length (clause_of (imaged card m) j) ≡ length (clause_of m j)
  length_is j = ap length (clause_is j) ∙ length-map (clause_of m j) (act card)

  -- 0 is no literal, and stays
  pub literal_is : (j i : ℕ) → literal_of (imaged card m) j i ≡ act card (literal_of m j i)
  literal_is j i = ap (λ (C : List ℕ). get_or C i 0) (clause_is j) ∙ get_or_mapped (act card) (clause_of m j) i 0 0 (act_double card 0 ∙ card.none)
