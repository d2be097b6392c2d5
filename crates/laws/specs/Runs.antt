-- Any list of calls, from the empty store: what each is answered, and which clauses are kept.
use Rattle.std.specs.Prelude.{◌≡◌, ℕ, suc, Bool, List, [], ◌∷◌, ◌++◌, length}
use Rattle.calculus.specs.Meaning.{Meaning}
use Rattle.laws.specs.Lines.{Line}
use Rattle.laws.specs.Store.{Store}
use Rattle.laws.specs.Claims.{Answer, keeps, refused, claim, closed}

-- a line is claimed, or the verdict is asked for
pub data Call : Type 0 where
  claims : Line → Call
  asks : Call

-- a claim is granted as the line of this number, or refused with this number;
-- the verdict says whether the formula is refuted, and how many claims were granted
pub data Reply : Type 0 where
  granted : ℕ → Reply
  refusal : ℕ → Reply
  verdict : Bool → ℕ → Reply

-- the replies so far, and the clauses kept
pub record State : Type 0 where
  pub replies : List Reply
  pub kept : List (List ℕ)

-- how many claims were granted
abbrev pub granted_claims : List Reply → ℕ
granted_claims [] = 0
granted_claims (granted i ∷ rs) = suc (granted_claims rs)
granted_claims (refusal k ∷ rs) = granted_claims rs
granted_claims (verdict b k ∷ rs) = granted_claims rs

-- a claim that is granted keeps its clause as the next line; one that is refused changes nothing
abbrev pub answered : State → Answer → State
answered s (keeps C) = record { replies = s.replies ++ (granted (length s.kept) ∷ []); kept = s.kept ++ (C ∷ []) }
answered s (refused k) = record { replies = s.replies ++ (refusal k ∷ []); kept = s.kept }

-- a call; the verdict changes nothing
abbrev pub called : Store → Meaning → State → Call → State
called S m s (claims line) = answered s (claim S m s.kept line)
called S m s asks = record { replies = s.replies ++ (verdict (closed s.kept) (granted_claims s.replies) ∷ []); kept = s.kept }

-- calls, one after the other
unfoldable pub run_from : Store → Meaning → State → List Call → State
run_from S m s [] = s
run_from S m s (c ∷ cs) = run_from S m (called S m s c) cs

-- nothing said and nothing kept
abbrev pub start : State
start = record { replies = []; kept = [] }

-- calls from the first on
abbrev pub run : Store → Meaning → List Call → State
run S m calls = run_from S m start calls

-- some list of calls leads to s
abbrev pub Reached : Store → Meaning → State → Type 0
Reached S m s = (calls : List Call) × (run S m calls ≡ s)
