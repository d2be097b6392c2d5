-- The conditions of an image: its card is a symmetry of the formula, or the first reason why not is named.
use Rattle.std.proofs.Common.{◌≡◌, ℕ, ◌<◌, false, List, map, length, Ok, Err, refl, ap, ◌∙◌, subst, inl, inr}
use Rattle.calculus.specs.Meaning.{Meaning}
use Rattle.laws.specs.Cards.{Card, act, Symmetry}
use Rattle.laws.specs.Checks.{FailsWith}
use Rattle.laws.specs.Claims.{sorted}
use Rattle.laws.specs.Derivations.{line_of}
use Rattle.laws.specs.Lines.{symmetry}
use Rattle.sets.specs.Members.{members}
use Rattle.sets.specs.declared.clause_set.ClauseSet.{ClauseSet}
use Rattle.symmetry.specs.Faults.{Fault}
use Rattle.symmetry.specs.declared.fault.SymmetryFault.{SymmetryFault}
use Rattle.symmetry.specs.declared.fault.SymmetryFault.TheVariants.{Level, Asymmetry}
use Rattle.case.specs.Answers.{refusal_number}
use Rattle.case.specs.Refusals.{of_symmetry}
use Rattle.case.specs.Standing.{Standing}
use Rattle.case.specs.Steps.{card_checks, Yields}

-- the refusal of a card that is no symmetry is that of the first condition that fails
pub card_fails : (m : Meaning) (card : Card) (fault : SymmetryFault) → Fault m card fault → FailsWith (refusal_number (of_symmetry fault)) (card_checks m card)
card_fails m card Level h = inl (refl, h)
card_fails m card Asymmetry h = inr (h.0, inl (refl, h.1))

-- on an open case, of a line that is kept
module _ (s : Standing) (p : ℕ) (card : Card) (still : s.refuted ≡ false) (earlier : p < length s.shelf.kept) (m : Meaning) (is : m ≡ s.formula) where
  pub symmetry_fails : (f : SymmetryFault) → Fault m card f → Yields s (symmetry p card) (Err (of_symmetry f))
  symmetry_fails f h = inr (still, inr (earlier, card_fails s.formula card f (subst (λ n. Fault n card f) is h)))

  pub symmetry_yields :
      Symmetry m card → (set : ClauseSet) (P : List ℕ) → P ≡ line_of s.shelf.kept p → members set.literals.words ≡ sorted (map (act card) P) → Yields s (symmetry p card) (Ok set)
  symmetry_yields h set P e clause =
      let g : Symmetry s.formula card = subst (λ n. Symmetry n card) is h in
      ((still, (earlier, (g.admissible, (g.carries, tt)))), clause ∙ ap (λ C. sorted (map (act card) C)) e)
