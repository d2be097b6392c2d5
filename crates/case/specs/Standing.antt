-- Where a case stands: its formula, whether it is refuted, and its shelf.
use Rattle.std.specs.Prelude.{ℕ, Bool, false, List, [], ◌∷◌, ◌++◌}
use Rattle.calculus.specs.Meaning.{Meaning}
use Rattle.laws.specs.Claims.{is_empty}
use Rattle.shelf.specs.Shelved.{Shelved, holding}
use Rattle.case.specs.declared.case.Case.{Case}

pub record Standing : Type 0 where
  pub formula : Meaning
  pub refuted : Bool
  pub shelf : Shelved

-- where a case stands, by the meanings of its formula and its shelf
abbrev pub standing : {F S : Type 0} → (F → Meaning) → (S → Shelved) → Case F S → Standing
standing formula shelf c = record { formula = formula c.formula; refuted = c.refuted; shelf = shelf c.shelf }

-- a case as it is opened: nothing is kept
abbrev pub opened : Meaning → Shelved → Standing
opened m s = record { formula = m; refuted = false; shelf = holding s [] }

-- with C as one more line; the empty clause refutes
abbrev pub with_line : Standing → List ℕ → Standing
with_line s C = record { formula = s.formula; refuted = is_empty C; shelf = holding s.shelf (s.shelf.kept ++ (C ∷ [])) }
