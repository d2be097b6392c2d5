-- What is promised of the verdict, and of every list of calls.
use Rattle.std.specs.Prelude.{◌≡◌, ℕ, ◌≤◌, true, false, ◌↔◌, List, [], ◌∷◌, ◌++◌, map, length, take, drop}
use Rattle.calculus.specs.Meaning.{Meaning}
use Rattle.calculus.specs.Sets.{◌∈◌}
use Rattle.calculus.specs.Truth.{truth}
use Rattle.laws.specs.Derivations.{DerivablePlainly}
use Rattle.laws.specs.Replies.{Replies}
use Rattle.laws.specs.Runs.{Call, asks, Reply, verdict, granted_claims, run}
use Rattle.laws.specs.Store.{Store, Space, Closed}
use Rattle.case.specs.Answers.{is_refuted, verdict_number, meant_call, meant_reply}
use Rattle.case.specs.Claimed.{After}
use Rattle.case.specs.Standing.{Standing}
use Rattle.case.specs.declared.call.Call.{Call as Called}
use Rattle.case.specs.declared.call.Reply.{Reply as Replied}
use Rattle.case.specs.declared.verdict.Verdict.{Verdict}

-- the verdict says whether the case is refuted, and how many lines are kept
abbrev pub Says : Standing → Verdict → Type 0
Says s v = (is_refuted v ≡ s.refuted) × (verdict_number v ≡ length s.shelf.kept)

-- after calls from the opening, the verdict is Refuted exactly if the empty clause has been kept, and then the formula is false; its number
-- counts the claims granted; asking for it is a call that gets it as its reply, and changes nothing
pub record VerdictRight (calls : List Call) (s : Standing) (v : Verdict) : Type 0 where
  pub exactly : (is_refuted v ≡ true) ↔ Closed s.shelf.kept
  pub false_then : is_refuted v ≡ true → truth s.formula ≡ false
  pub number : verdict_number v ≡ granted_claims (run s.shelf.store s.formula calls).replies
  pub replied :
      (run s.shelf.store s.formula (calls ++ (asks ∷ []))).replies ≡
      (run s.shelf.store s.formula calls).replies ++ (verdict (is_refuted v) (verdict_number v) ∷ [])
  pub stays : After (calls ++ (asks ∷ [])) s

-- some list of calls ends with the verdict Refuted
abbrev pub EndsRefuted : Store → Meaning → Type 0
EndsRefuted S m =
    (calls : List Called) × (replies : List Reply) × (kept : List (List ℕ)) × (k : ℕ) ×
    Replies S m (map meant_call calls) (replies ++ (verdict true k ∷ [])) kept

-- what holds after every list of calls, of its replies and of where the case then stands
pub record Promise (S : Store) (m : Meaning) (calls : List Call) (replies : List Reply) (s : Standing) : Type 0 where
  -- every answer, and the clauses kept in their order, are those that the checks and rules give
  pub answered : Replies S m calls replies s.shelf.kept
  -- the verdict is Refuted exactly if the empty clause has been kept, and then the formula is false
  pub exactly : (s.refuted ≡ true) ↔ Closed s.shelf.kept
  pub false_then : s.refuted ≡ true → truth m ≡ false
  pub false_said : (k : ℕ) → verdict true k ∈ replies → truth m ≡ false
  -- as many clauses are kept as claims were granted
  pub counted : granted_claims replies ≡ length s.shelf.kept
  -- each clause kept can be derived by axiom, resolution and reduction lines alone
  pub derived : (C : List ℕ) → C ∈ s.shelf.kept → DerivablePlainly m C
  -- with at most twelve variables, and space for 8,191 clauses of twelve literals, some list of calls ends Refuted exactly if the formula is false
  pub complete : m.n ≤ 12 → Space S 8191 12 → EndsRefuted S m ↔ (truth m ≡ false)

-- what a run promises: calls are made as long as there is a place for the reply; the formula and the numbers of the shelf stay; the promise
-- holds of the calls made and their replies; the case stands where they lead; and places behind the replies hold what they held
pub record RunRight (S : Store) (m : Meaning) (calls : List Called) (before after : List Replied) (s : Standing) : Type 0 where
  pub formula : s.formula ≡ m
  pub numbers : s.shelf.store ≡ S
  pub promise : Promise S m (map meant_call (take (length before) calls)) (map meant_reply (take (length calls) after)) s
  pub reached : After (map meant_call (take (length before) calls)) s
  pub rest : drop (length calls) after ≡ drop (length calls) before
