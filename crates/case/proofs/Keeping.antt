-- A set of literals without tautology, written out as a clause.
use Rattle.std.proofs.Common.{◌≡◌, ℕ, ◌≤◌, List, length, take, sym, ap, ◌∙◌, subst, arith, length-take}
use Rattle.calculus.specs.Literals.{Tautological}
use Rattle.calculus.specs.Meaning.{Code}
use Rattle.laws.proofs.Formedness.{all_from}
use Rattle.sets.specs.Members.{members}
use Rattle.sets.specs.Laid.{laid}
use Rattle.sets.proofs.Elements.{asc_members, from_members}
use Rattle.sets.proofs.Laying.{laid_front}
use Rattle.shelf.specs.Proper.{Proper, LongestFront}
use Rattle.shelf.proofs.Climbing.{proper_short}
use Rattle.shelf.proofs.Fronts.{front_whole}

module _ (words : List ℕ) (free : Tautological (members words) → ⊥) where
  pub proper_members : Proper (members words)
  proper_members = record {
    ascending = asc_members words;
    tautology_free = free;
    codes = all_from (Code 512) (members words) (λ l i. (from_members words l i).0);
  }

  pub short_members : length (members words) ≤ 512
  short_members = proper_short (members words) proper_members

  -- written into 512 cells, the whole set is their front
  module _ (cells out : List ℕ) (r : ℕ) (long : length cells ≡ 512) (count : r ≡ length (members words)) (written : out ≡ laid (members words) cells) where
    pub written_front : take r out ≡ members words
    written_front = ap (λ k. take k out) count ∙ (ap (take (length (members words))) written ∙ laid_front (members words) cells (omega (arith, short_members)))

    pub counted_front : r ≡ length (take r out)
    counted_front = count ∙ sym (ap length written_front)

    pub within_cells : r ≤ length out
    within_cells = omega (arith, counted_front, length-take r out)

    pub front_members : (F : List ℕ) → LongestFront (take r out) F → F ≡ members words
    front_members F f = front_whole (members words) F (subst (λ C. LongestFront C F) written_front f) proper_members
