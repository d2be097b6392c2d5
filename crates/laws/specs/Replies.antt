-- Any list of calls as a relation in the words of the calculus: which replies they get, and which clauses are kept then.
use Rattle.std.specs.Prelude.{◌≡◌, ℕ, ◌+◌, true, ◌↔◌, List, [], ◌∷◌, ◌++◌, length}
use Rattle.calculus.specs.Meaning.{Meaning}
use Rattle.laws.specs.Store.{Store, Closed}
use Rattle.laws.specs.Checks.{Granted, RefusedWith}
use Rattle.laws.specs.Runs.{Call, claims, asks, Reply, granted, refusal, verdict, granted_claims, run}

-- after these clauses were kept and so many claims were granted, the call gets this reply, and these clauses are kept then:
-- a claim that is granted keeps a clause of its rule as the next line; one that is refused keeps nothing, and names the first check that fails;
-- the verdict says whether the empty clause has been kept, and how many claims were granted
abbrev pub Replied : Store → Meaning → List (List ℕ) → ℕ → Call → Reply → List (List ℕ) → Type 0
Replied S m kept count (claims line) (granted p) then =
    (C : List ℕ) × Granted S m kept line C × (p ≡ length kept) × (then ≡ kept ++ (C ∷ []))
Replied S m kept count (claims line) (refusal k) then = RefusedWith S m kept line k × (then ≡ kept)
Replied S m kept count (claims line) (verdict b k) then = ⊥
Replied S m kept count asks (granted p) then = ⊥
Replied S m kept count asks (refusal k) then = ⊥
Replied S m kept count asks (verdict b k) then = ((b ≡ true) ↔ Closed kept) × (k ≡ count) × (then ≡ kept)

-- the calls get these replies one by one, and the last clauses are kept at the end
abbrev pub RepliedEach : Store → Meaning → List (List ℕ) → ℕ → List Call → List Reply → List (List ℕ) → Type 0
RepliedEach S m kept count [] [] last = last ≡ kept
RepliedEach S m kept count [] (r ∷ rs) last = ⊥
RepliedEach S m kept count (c ∷ cs) [] last = ⊥
RepliedEach S m kept count (c ∷ cs) (r ∷ rs) last =
    (then : List (List ℕ)) × Replied S m kept count c r then × RepliedEach S m then (count + granted_claims (r ∷ [])) cs rs last

-- from an empty store, the calls get these replies, and these clauses are kept
abbrev pub Replies : Store → Meaning → List Call → List Reply → List (List ℕ) → Type 0
Replies S m calls replies kept = RepliedEach S m [] 0 calls replies kept

-- every list of calls has exactly one list of replies and one list of clauses kept
abbrev pub CallsHaveOneOutcome : Type 0
CallsHaveOneOutcome =
    (S : Store) (m : Meaning) (calls : List Call) (replies : List Reply) (kept : List (List ℕ)) →
    Replies S m calls replies kept ↔ ((replies ≡ (run S m calls).replies) × (kept ≡ (run S m calls).kept))
