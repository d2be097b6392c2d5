-- What the claim of a line is answered, and where the case stands then.
use Rattle.std.specs.Prelude.{◌≡◌, ℕ, false, ◌↔◌, List, [], ◌∷◌, ◌++◌, length, Ok, Err, Result, MatchResult}
use Rattle.laws.specs.Checks.{FailsWith}
use Rattle.laws.specs.Claims.{Answer, keeps, refused, given, closed}
use Rattle.laws.specs.When.{checks_when, claim_when}
use Rattle.laws.specs.Derivations.{Permits}
use Rattle.laws.specs.Lines.{Line}
use Rattle.laws.specs.Runs.{Call, claims, Reply, run}
use Rattle.laws.specs.Store.{Room}
use Rattle.case.specs.Answers.{refusal_number, claim_reply}
use Rattle.case.specs.Standing.{Standing, with_line}
use Rattle.case.specs.declared.refusal.Refusal.{Refusal}

-- the answer of the calculus to the claim of a line
abbrev pub outcome : Standing → Line → Answer
outcome s line = claim_when s.refuted s.shelf.store s.formula s.shelf.kept line

-- the clause of the line's rule
abbrev pub clause_by : Standing → Line → List ℕ
clause_by s line = given s.formula s.shelf.kept line

-- granted as the next line, which keeps the rule's clause; or refused with the number of the first check that fails, and nothing has changed
abbrev pub Claimed : Standing → Line → Result ℕ Refusal → Standing → Type 0
Claimed s line r t =
    MatchResult r (λ p. (outcome s line ≡ keeps (clause_by s line)) × (p ≡ length s.shelf.kept) × (t ≡ with_line s (clause_by s line)))
    (λ e. (outcome s line ≡ refused (refusal_number e)) × (t ≡ s))

-- the same in the words of the calculus: granted exactly where the case is not refuted, the calculus permits the line, and the shelf can keep
-- its clause; what is kept is such a clause; and a refusal has the number of the first check that fails
pub record Judged (s : Standing) (line : Line) (r : Result ℕ Refusal) (t : Standing) : Type 0 where
  pub granted :
      ((p : ℕ) × (r ≡ Ok p)) ↔
      ((s.refuted ≡ false) × ((C : List ℕ) × Permits s.formula s.shelf.kept line C × Room s.shelf.store s.shelf.kept C))
  pub kept :
      (p : ℕ) → r ≡ Ok p →
      (C : List ℕ) × Permits s.formula s.shelf.kept line C × (p ≡ length s.shelf.kept) × (t ≡ with_line s C)
  pub refused :
      (e : Refusal) → r ≡ Err e →
      FailsWith (refusal_number e) (checks_when (s.refuted ≡ false) s.shelf.store s.formula s.shelf.kept line) × (t ≡ s)

-- the case stands where the calls lead, from its opening
pub record After (calls : List Call) (s : Standing) : Type 0 where
  pub kept : s.shelf.kept ≡ (run s.shelf.store s.formula calls).kept
  pub refuted : s.refuted ≡ closed s.shelf.kept

-- some calls lead there
abbrev pub Reached : Standing → Type 0
Reached s = (calls : List Call) × After calls s

-- wherever calls lead to s, with this call they lead to t, and the call gets the reply
abbrev pub GoesOn : Standing → Call → Reply → Standing → Type 0
GoesOn s call reply t =
    (calls : List Call) → After calls s →
    After (calls ++ (call ∷ [])) t ×
    ((run s.shelf.store s.formula (calls ++ (call ∷ []))).replies ≡ (run s.shelf.store s.formula calls).replies ++ (reply ∷ []))

-- what a claim promises: its answer, the same in the words of the calculus, and how it goes on
pub record ClaimRight (s : Standing) (line : Line) (r : Result ℕ Refusal) (t : Standing) : Type 0 where
  pub answered : Claimed s line r t
  pub judged : Judged s line r t
  pub goes_on : GoesOn s (claims line) (claim_reply r) t

-- what a call promises: the formula and the numbers of the shelf stay, and how it goes on
pub record CallRight (s : Standing) (call : Call) (reply : Reply) (t : Standing) : Type 0 where
  pub formula : t.formula ≡ s.formula
  pub store : t.shelf.store ≡ s.shelf.store
  pub goes_on : GoesOn s call reply t
