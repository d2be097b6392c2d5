-- What is proved of the calculus.
use Rattle.std.specs.Prelude.{◌≡◌, ℕ, suc, ◌<◌, ◌≤◌, false, List, [], length, take}
use Rattle.std.specs.List.{AllByRecursion}
use Rattle.calculus.specs.Sets.{◌∈◌}
use Rattle.calculus.specs.Literals.{Tautological}
use Rattle.calculus.specs.Meaning.{Meaning, Formed, Code}
use Rattle.calculus.specs.Truth.{truth}
use Rattle.laws.specs.Clauses.{Ascending}
use Rattle.laws.specs.Cards.{Card, Symmetry, Undoes}
use Rattle.laws.specs.Lines.{Line, symmetry, Plain}
use Rattle.laws.specs.Derivations.{line_of, Gives, Follows, Derivation, Derivable, DerivablePlainly}
use Rattle.laws.specs.Refuting.{kept_of, refutation_of}
use Rattle.laws.specs.Images.{image_lines, image_clauses}

-- a clause as it is kept: literals of the formula's variables, ascending, none with its negation; so no more than there are variables
pub record ProperClause (m : Meaning) (C : List ℕ) : Type 0 where
  pub ascending : Ascending C
  pub tautology_free : Tautological C → ⊥
  pub codes : AllByRecursion (Code m.n) C
  pub few : length C ≤ m.n

-- every clause that can be derived is such a clause
abbrev pub ClausesProper : Type 0
ClausesProper = (m : Meaning) → Formed m → (C : List ℕ) → Derivable m C → ProperClause m C

-- a formula from which the empty clause can be derived is false
abbrev pub Sound : Type 0
Sound = (m : Meaning) → Formed m → Derivable m [] → truth m ≡ false

-- what can be derived can be derived without symmetry lines
abbrev pub SymmetryAddsNothing : Type 0
SymmetryAddsNothing = (m : Meaning) → Formed m → (C : List ℕ) → Derivable m C → DerivablePlainly m C

-- in the place of a symmetry line: of a derivation without symmetry lines, the images of lines 0 to p follow any clauses kept,
-- they are no symmetry lines, and the last keeps what the symmetry line would
pub record Unrolled (m : Meaning) (card : Card) (lines : List Line) (clauses : List (List ℕ)) (p : ℕ) (kept : List (List ℕ)) : Type 0 where
  pub follows : Follows m kept (image_lines m card (length kept) (take (suc p) lines)) (image_clauses card (take (suc p) clauses))
  pub plain : AllByRecursion Plain (image_lines m card (length kept) (take (suc p) lines))
  pub last : Gives m clauses (symmetry p card) (line_of (image_clauses card (take (suc p) clauses)) p)

abbrev pub ImagesDerive : Type 0
ImagesDerive =
    (m : Meaning) → Formed m → (card : Card) → Symmetry m card → (lines : List Line) (clauses : List (List ℕ)) → Derivation m lines clauses →
    AllByRecursion Plain lines → (p : ℕ) → p < length lines → (kept : List (List ℕ)) → Unrolled m card lines clauses p kept

-- a derivation of the empty clause without symmetry lines: at most 8,191 lines, of at most twelve literals each
pub record Refutation (m : Meaning) (lines : List Line) (clauses : List (List ℕ)) : Type 0 where
  pub derivation : Derivation m lines clauses
  pub plain : AllByRecursion Plain lines
  pub few : length lines ≤ 8191
  pub short : AllByRecursion (λ C. length C ≤ 12) clauses
  pub closed : [] ∈ clauses

-- of a false formula of at most twelve variables, the lines that are found are such a derivation
abbrev pub Complete : Type 0
Complete = (m : Meaning) → Formed m → m.n ≤ 12 → truth m ≡ false → Refutation m (refutation_of m).lines (kept_of (refutation_of m))

-- every card is undone by another, which it undoes in turn
abbrev pub CardsUndone : Type 0
CardsUndone = (card : Card) → (back : Card) × Undoes back card × Undoes card back
