-- The lines of a derivation. Lines are numbered from 0, and name clauses of the formula or earlier lines.
use Rattle.std.specs.Prelude.{ℕ}
use Rattle.laws.specs.Cards.{Card}

-- clause j; lines p and q resolved upon v; line p reduced by v; the image of line p
pub data Line : Type 0 where
  axiom_line : ℕ → Line
  resolution : ℕ → ℕ → ℕ → Line
  reduction : ℕ → ℕ → Line
  symmetry : ℕ → Card → Line

-- a line that is no symmetry line
abbrev pub Plain : Line → Type 0
Plain (axiom_line j) = Unit {0}
Plain (resolution p q v) = Unit {0}
Plain (reduction p v) = Unit {0}
Plain (symmetry p card) = ⊥
