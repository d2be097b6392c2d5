-- The verdict is right wherever calls lead, and so is every verdict among the replies.
use Rattle.std.proofs.Common.{◌≡◌, ℕ, true, false, ◌↔◌, List, [], ◌∷◌, ◌++◌, length, sym, refl, ap, ◌∙◌, subst, ap₂, ⊎_elim, arith}
use Rattle.calculus.specs.Meaning.{Meaning, Formed}
use Rattle.calculus.specs.Sets.{◌∈◌}
use Rattle.calculus.specs.Truth.{truth}
use Rattle.laws.specs.Claims.{Answer, keeps, refused, claim, closed}
use Rattle.laws.specs.Runs.{Call, claims, asks, Reply, granted, refusal, verdict, State, granted_claims, answered, called, run_from, start, run, Reached}
use Rattle.laws.specs.Store.{Store, Closed}
use Rattle.laws.specs.Verdicts.{StateRight}
use Rattle.laws.proofs.Calls.{called_after, reached_right}
use Rattle.laws.proofs.Deciding.{closed_is}
use Rattle.laws.proofs.Sets.{in_append}
use Rattle.case.specs.Answers.{is_refuted, verdict_number}
use Rattle.case.specs.Claimed.{After}
use Rattle.case.specs.Promise.{Says, VerdictRight}
use Rattle.case.specs.Standing.{Standing}
use Rattle.case.specs.declared.verdict.Verdict.{Verdict}

-- what holds of each state that calls lead to
pub run_right : (S : Store) (m : Meaning) → Formed m → (calls : List Call) → StateRight m (run S m calls)
run_right S m formed calls = (reached_right S m).right formed (run S m calls) (calls, refl)

-- a case is refuted exactly if the empty clause has been kept
pub refuted_is : (calls : List Call) (s : Standing) → After calls s → (s.refuted ≡ true) ↔ Closed s.shelf.kept
refuted_is calls s h = (λ e. (closed_is s.shelf.kept).0 (sym h.refuted ∙ e), λ c. h.refuted ∙ (closed_is s.shelf.kept).1 c)

-- and so is its verdict
pub says_closed : (s : Standing) (v : Verdict) → s.refuted ≡ closed s.shelf.kept → Says s v → (is_refuted v ≡ true) ↔ Closed s.shelf.kept
says_closed s v e (b, k) = (λ h. (closed_is s.shelf.kept).0 (sym (b ∙ e) ∙ h), λ c. b ∙ (e ∙ (closed_is s.shelf.kept).1 c))

-- and then its formula is false
pub refuted_false : (calls : List Call) (s : Standing) → Formed s.formula → After calls s → s.refuted ≡ true → truth s.formula ≡ false
refuted_false calls s formed h e =
    (run_right s.shelf.store s.formula formed calls).refuted (subst Closed h.kept ((refuted_is calls s h).0 e))

-- as many lines are kept as claims were granted
pub kept_counted :
    (calls : List Call) (s : Standing) → Formed s.formula → After calls s → length s.shelf.kept ≡ granted_claims (run s.shelf.store s.formula calls).replies
kept_counted calls s formed h = ap length h.kept ∙ sym (run_right s.shelf.store s.formula formed calls).counted

pub verdict_holds : (s : Standing) (v : Verdict) → Formed s.formula → Says s v → (calls : List Call) → After calls s → VerdictRight calls s v
verdict_holds s v formed (b, k) calls h = record {
  exactly = (λ e. (refuted_is calls s h).0 (sym b ∙ e), λ c. b ∙ (refuted_is calls s h).1 c);
  false_then = λ e. refuted_false calls s formed h (sym b ∙ e);
  number = number;
  replied = ap (λ t. t.replies) asked ∙ ap₂ (λ x n. now.replies ++ (verdict x n ∷ [])) (sym (b ∙ (h.refuted ∙ ap closed h.kept))) (sym number);
  stays = record { kept = h.kept ∙ sym (ap (λ t. t.kept) asked); refuted = h.refuted };
}
  where
    now : State
    now = run s.shelf.store s.formula calls

    asked : run s.shelf.store s.formula (calls ++ (asks ∷ [])) ≡ called s.shelf.store s.formula now asks
    asked = called_after s.shelf.store s.formula calls asks

    number : verdict_number v ≡ granted_claims now.replies
    number = k ∙ kept_counted calls s formed h

-- no reply says Refuted of a formula that is not false

module _ (S : Store) (m : Meaning) (formed : Formed m) where
  abbrev SaidRight : List Reply → Type 0
  SaidRight rs = (k : ℕ) → verdict true k ∈ rs → truth m ≡ false

  said_push : (rs : List Reply) (r : Reply) → SaidRight rs → ((k : ℕ) → verdict true k ≡ r → truth m ≡ false) → SaidRight (rs ++ (r ∷ []))
  said_push rs r h g k i = ⊎_elim (h k) (⊎_elim (g k) (λ j. absurd j)) (in_append (verdict true k) rs (r ∷ []) i)

  said_answer : (s : State) (a : Answer) → SaidRight s.replies → SaidRight (answered s a).replies
  said_answer s (keeps C) h = said_push s.replies (granted (length s.kept)) h (λ k e. absurd (let z : ◌≡◌ {A = ℕ} 0 1 = cc in omega arith))
  said_answer s (refused n) h = said_push s.replies (refusal n) h (λ k e. absurd (let z : ◌≡◌ {A = ℕ} 0 1 = cc in omega arith))

  said_call : (s : State) (c : Call) → Reached S m s → SaidRight s.replies → SaidRight (called S m s c).replies
  said_call s (claims line) r h = said_answer s (claim S m s.kept line) h
  said_call s asks r h =
      said_push s.replies (verdict (closed s.kept) (granted_claims s.replies)) h
      (λ k e. let b : closed s.kept ≡ true = cc in ((reached_right S m).right formed s r).refuted ((closed_is s.kept).0 b))

  said_calls : (s : State) (calls : List Call) → Reached S m s → SaidRight s.replies → SaidRight (run_from S m s calls).replies
  unfolding run_from
  said_calls s [] r h = h
  said_calls s (c ∷ cs) r h = said_calls (called S m s c) cs ((reached_right S m).by_call s c r) (said_call s c r h)

  pub said_false : (calls : List Call) (k : ℕ) → verdict true k ∈ (run S m calls).replies → truth m ≡ false
  said_false calls = said_calls start calls (reached_right S m).at_start (λ k i. absurd i)
