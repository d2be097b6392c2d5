-- The checks of a claim where it is known of the case whether it is closed, and not only what it keeps.
use Rattle.std.specs.Prelude.{◌≡◌, ℕ, Bool, not, ◌↔◌, List, [], ◌∷◌, ◌++◌}
use Rattle.calculus.specs.Meaning.{Meaning}
use Rattle.laws.specs.Lines.{Line}
use Rattle.laws.specs.Derivations.{Gives, Permits}
use Rattle.laws.specs.Store.{Store, Room}
use Rattle.laws.specs.Checks.{Check, conditions, Hold, FailsWith}
use Rattle.laws.specs.Claims.{Answer, keeps, refused, given, room, rule_tests, first_failing}

-- first that the case is still open, then the rule's conditions, last that there is room for the rule's clause
abbrev pub checks_when : Type 0 → Store → Meaning → List (List ℕ) → Line → List Check
checks_when StillOpen S m kept line =
    (31, StillOpen) ∷ (conditions m kept line ++ ((38, ((C : List ℕ) → Gives m kept line C → Room S kept C)) ∷ []))

-- all tests, in the order of the checks
abbrev pub tests_when : Bool → Store → Meaning → List (List ℕ) → Line → List (ℕ × Bool)
tests_when is_closed S m kept line = (31, not is_closed) ∷ (rule_tests m kept line ++ ((38, room S kept (given m kept line)) ∷ []))

-- what the claim of a line is answered, on a case that is closed or not, after the clauses kept
unfoldable pub claim_when : Bool → Store → Meaning → List (List ℕ) → Line → Answer
claim_when is_closed S m kept line = first_failing (tests_when is_closed S m kept line) (keeps (given m kept line))

-- the checks decide the calculus: a claim keeps C exactly where all checks hold and C is the rule's clause, and is refused exactly with the
-- number of the first check that fails; all hold where the case is still open, the calculus permits the line, and there is room
pub record DecidedWhen (is_closed : Bool) (StillOpen : Type 0) (S : Store) (m : Meaning) (kept : List (List ℕ)) (line : Line) : Type 0 where
  pub keeping : (C : List ℕ) → (claim_when is_closed S m kept line ≡ keeps C) ↔ (Hold (checks_when StillOpen S m kept line) × Gives m kept line C)
  pub refusing : (k : ℕ) → (claim_when is_closed S m kept line ≡ refused k) ↔ FailsWith k (checks_when StillOpen S m kept line)
  pub granting :
      (C : List ℕ) → (Hold (checks_when StillOpen S m kept line) × Gives m kept line C) ↔ (StillOpen × Permits m kept line C × Room S kept C)
