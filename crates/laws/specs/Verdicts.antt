-- What is proved of claims, of any list of calls, and of the verdict.
use Rattle.std.specs.Prelude.{◌≡◌, ℕ, ◌+◌, ◌*◌, ◌≤◌, Bool, true, false, ◌⊎◌, ◌↔◌, List, [], ◌∷◌, ◌++◌, map, length}
use Rattle.std.specs.List.{range_with_len}
use Rattle.calculus.specs.Sets.{◌∈◌}
use Rattle.calculus.specs.Meaning.{Meaning, Formed}
use Rattle.calculus.specs.Truth.{truth}
use Rattle.laws.specs.Lines.{Line}
use Rattle.laws.specs.Derivations.{Permits, DerivablePlainly}
use Rattle.laws.specs.Store.{Store, Room, Closed}
use Rattle.laws.specs.Checks.{Granted, RefusedWith}
use Rattle.laws.specs.Claims.{keeps, refused, claim}
use Rattle.laws.specs.Runs.{Call, claims, asks, Reply, granted, refusal, verdict, State, granted_claims, called, start, run, Reached}
use Rattle.laws.specs.Refuting.{kept_of, refutation_of}
use Rattle.laws.specs.Theorems.{ProperClause}

-- the checks decide the calculus: a claim keeps C exactly where it is granted with C, and is refused exactly with the number of the first
-- check that fails; granted is what the calculus permits before the empty clause is kept, where there is room
pub record Decided (S : Store) (m : Meaning) (kept : List (List ℕ)) (line : Line) : Type 0 where
  pub keeping : (C : List ℕ) → (claim S m kept line ≡ keeps C) ↔ Granted S m kept line C
  pub refusing : (k : ℕ) → (claim S m kept line ≡ refused k) ↔ RefusedWith S m kept line k
  pub granting : (C : List ℕ) → Granted S m kept line C ↔ ((Closed kept → ⊥) × Permits m kept line C × Room S kept C)

abbrev pub ChecksDecide : Type 0
ChecksDecide = (S : Store) (m : Meaning) (kept : List (List ℕ)) (line : Line) → Decided S m kept line

-- after any calls, a claim is granted and the rule's clause is kept as the next line, or it is refused with the number of its first failing
-- check and nothing changes
abbrev pub ClaimsAnswered : Type 0
ClaimsAnswered =
    (S : Store) (m : Meaning) (calls : List Call) (line : Line) →
    ((C : List ℕ) × Granted S m (run S m calls).kept line C ×
    (run S m (calls ++ (claims line ∷ [])) ≡ record { replies = (run S m calls).replies ++ (granted (length (run S m calls).kept) ∷ []); kept = (run S m calls).kept ++ (C ∷ []) })) ⊎
    ((k : ℕ) × RefusedWith S m (run S m calls).kept line k ×
    (run S m (calls ++ (claims line ∷ [])) ≡ record { replies = (run S m calls).replies ++ (refusal k ∷ []); kept = (run S m calls).kept }))

-- t has what s has, and maybe more behind it
abbrev pub Begins : State → State → Type 0
Begins s t = (replies : List Reply) × (kept : List (List ℕ)) × (t.replies ≡ s.replies ++ replies) × (t.kept ≡ s.kept ++ kept)

-- what has been answered and kept stays, whatever is called next
abbrev pub NothingLost : Type 0
NothingLost = (S : Store) (m : Meaning) (calls more : List Call) → Begins (run S m calls) (run S m (calls ++ more))

-- asked after the calls, the verdict says b, and the number k
abbrev pub Says : Store → Meaning → List Call → Bool → ℕ → Type 0
Says S m calls b k = (run S m (calls ++ (asks ∷ []))).replies ≡ (run S m calls).replies ++ (verdict b k ∷ [])

-- what holds of each state that calls lead to: every clause kept is a proper one and can be derived without symmetry lines, one is kept for
-- each claim granted, and where the empty clause is kept the formula is false
pub record StateRight (m : Meaning) (s : State) : Type 0 where
  pub proper : (C : List ℕ) → C ∈ s.kept → ProperClause m C
  pub derived : (C : List ℕ) → C ∈ s.kept → DerivablePlainly m C
  pub counted : granted_claims s.replies ≡ length s.kept
  pub refuted : Closed s.kept → truth m ≡ false

-- the state at the start is reached, a call leads from a state that is reached to another, and each of them is right
pub record ReachedRight (S : Store) (m : Meaning) : Type 0 where
  pub at_start : Reached S m start
  pub by_call : (s : State) (c : Call) → Reached S m s → Reached S m (called S m s c)
  pub right : Formed m → (s : State) → Reached S m s → StateRight m s

abbrev pub StatesRight : Type 0
StatesRight = (S : Store) (m : Meaning) → ReachedRight S m

-- asked after any calls, the verdict changes nothing; it says whether the empty clause has been kept, and then the formula is false; its number
-- is that of the claims granted, and of the lines kept
pub record VerdictRight (S : Store) (m : Meaning) (calls : List Call) : Type 0 where
  pub changes_nothing : (run S m (calls ++ (asks ∷ []))).kept ≡ (run S m calls).kept
  pub said : (b : Bool) × Says S m calls b (length (run S m calls).kept)
  pub exactly : (b : Bool) (k : ℕ) → Says S m calls b k → (b ≡ true) ↔ Closed (run S m calls).kept
  pub false_then : (k : ℕ) → Says S m calls true k → truth m ≡ false
  pub number : (b : Bool) (k : ℕ) → Says S m calls b k → (k ≡ granted_claims (run S m calls).replies) × (k ≡ length (run S m calls).kept)

abbrev pub VerdictsRight : Type 0
VerdictsRight = (S : Store) (m : Meaning) → Formed m → (calls : List Call) → VerdictRight S m calls

-- a store that can bear 8,191 clauses of twelve literals
abbrev pub Ample : Store → Type 0
Ample S = 8191 * (S.base + S.rate * 12) ≤ S.capacity

-- on an ample store the lines that are found can be claimed: each is granted as the next line, and the verdict is that the formula is refuted
abbrev pub ClaimsSuffice : Type 0
ClaimsSuffice =
    (S : Store) (m : Meaning) → Formed m → m.n ≤ 12 → truth m ≡ false → Ample S →
    (run S m (map claims (refutation_of m).lines) ≡ record { replies = map granted (range_with_len 0 (length (refutation_of m).lines)); kept = kept_of (refutation_of m) }) ×
    Says S m (map claims (refutation_of m).lines) true (length (refutation_of m).lines)

-- on an ample store, with at most twelve variables, some list of calls ends in a refutation exactly where the formula is false
abbrev pub RefutedExactlyIfFalse : Type 0
RefutedExactlyIfFalse =
    (S : Store) (m : Meaning) → Formed m → m.n ≤ 12 → Ample S →
    ((calls : List Call) × (k : ℕ) × Says S m calls true k) ↔ (truth m ≡ false)
