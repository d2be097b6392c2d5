-- A clause as a shelf keeps it: literals of the variables 1 to 512, ascending, none with its negation.
use mathlib.Core.HLevel.{Π_prop, ⊥_prop, ×_prop, Unit-prop}
use Rattle.std.specs.Prelude.{◌≡◌, ℕ, ◌≤◌, List, [], ◌∷◌, length, take}
use Rattle.std.proofs.Math.Logic.{∥∥₁_elim}
use Rattle.std.proofs.Math.Bridge.{le_prop}
use Rattle.std.specs.List.{AllByRecursion, AllByRecursion-prop}
use Rattle.calculus.specs.Literals.{Tautological}
use Rattle.calculus.specs.Meaning.{Code}
use Rattle.laws.specs.Clauses.{Ascending}

pub record Proper (C : List ℕ) : Type 0 where
  pub ascending : Ascending C
  pub tautology_free : Tautological C → ⊥
  pub codes : AllByRecursion (Code 512) C
  deriving IsProp as proper_by

-- F is the longest front of C that is such a clause
pub record LongestFront (C F : List ℕ) : Type 0 where
  pub front : take (length F) C ≡ F
  pub proper : Proper F
  pub longest : (k : ℕ) → Proper (take k C) → length (take k C) ≤ length F

ascending_prop : (C : List ℕ) → IsProp (Ascending C)
ascending_prop [] = Unit-prop
ascending_prop (l ∷ ls) = ×_prop (Π_prop (λ k. Π_prop (λ h. le_prop))) (ascending_prop ls)

-- a list is such a clause in one way only
pub proper_prop : (C : List ℕ) → IsProp (Proper C)
proper_prop C = proper_by (ascending_prop C) (Π_prop (λ t. ⊥_prop)) (AllByRecursion-prop (Code 512) (λ l. ×_prop le_prop le_prop) C)

-- a struct holds the fact truncated; this takes it out
pub proper_out : {C : List ℕ} → ∥ Proper C ∥₁ → Proper C
proper_out {C} t = ∥∥₁_elim t (proper_prop C) (λ p. p)
