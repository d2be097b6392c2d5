-- Calls made one by one: where they lead, and their replies so far.
use Rattle.std.proofs.Common.{◌≡◌, ℕ, List, [], ◌∷◌, ◌++◌, map, Ok, Err, Result, sym, refl, ap, ◌∙◌, subst}
use Rattle.std.proofs.lemmas.List.{map_push}
use Rattle.calculus.specs.Meaning.{Meaning, Formed}
use Rattle.laws.specs.Lines.{Line}
use Rattle.laws.specs.Runs.{Call, claims, asks, Reply, verdict, run_from, run}
use Rattle.laws.specs.Store.{Store}
use Rattle.case.specs.Answers.{is_refuted, verdict_number, meant_call, meant_reply, claim_reply}
use Rattle.case.specs.Claimed.{After, ClaimRight, CallRight}
use Rattle.case.specs.Promise.{Promise, VerdictRight}
use Rattle.case.specs.Standing.{Standing}
use Rattle.case.specs.declared.call.Call.{Call as Called}
use Rattle.case.specs.declared.call.Reply.{Reply as Replied}
use Rattle.case.specs.declared.refusal.Refusal.{Refusal}
use Rattle.case.specs.declared.verdict.Verdict.{Verdict}
use Rattle.case.proofs.Promises.{keeps_promise}

-- a case of this formula and store stands where the calls lead, and these are their replies
pub record Led (S : Store) (m : Meaning) (calls : List Call) (replies : List Reply) (s : Standing) : Type 0 where
  pub formula : s.formula ≡ m
  pub store : s.shelf.store ≡ S
  pub after : After calls s
  pub replied : replies ≡ (run S m calls).replies

-- a claim is a call
pub claim_call : (s : Standing) (line : Line) (r : Result ℕ Refusal) (t : Standing) → ClaimRight s line r t → CallRight s (claims line) (claim_reply r) t
claim_call s line (Ok p) t h =
    let e : t ≡ _ = h.answered.2 in record { formula = ap (λ u. u.formula) e; store = ap (λ u. u.shelf.store) e; goes_on = h.goes_on }
claim_call s line (Err x) t h =
    let e : t ≡ _ = h.answered.1 in record { formula = ap (λ u. u.formula) e; store = ap (λ u. u.shelf.store) e; goes_on = h.goes_on }

-- so is asking for the verdict
pub asked_call : (s : Standing) (v : Verdict) → ((calls : List Call) → After calls s → VerdictRight calls s v) → CallRight s asks (verdict (is_refuted v) (verdict_number v)) s
asked_call s v right = record { formula = refl; store = refl; goes_on = λ calls h. ((right calls h).stays, (right calls h).replied) }

-- no calls yet
pub led_none : (s : Standing) → After [] s → Led s.shelf.store s.formula [] [] s
unfolding run_from
led_none s after = record { formula = refl; store = refl; after = after; replied = refl }

module _ (S : Store) (m : Meaning) (calls : List Call) (replies : List Reply) (s : Standing) (led : Led S m calls replies s) where
  -- one call more
  pub led_more : (c : Call) (reply : Reply) (t : Standing) → CallRight s c reply t → Led S m (calls ++ (c ∷ [])) (replies ++ (reply ∷ [])) t
  led_more c reply t right = record {
    formula = right.formula ∙ led.formula;
    store = right.store ∙ led.store;
    after = (right.goes_on calls led.after).0;
    replied = ap (λ rs. rs ++ (reply ∷ [])) led.replied
        ∙ sym (subst (λ n. (run S n (calls ++ (c ∷ []))).replies ≡ (run S n calls).replies ++ (reply ∷ [])) led.formula
        (subst (λ S'. (run S' s.formula (calls ++ (c ∷ []))).replies ≡ (run S' s.formula calls).replies ++ (reply ∷ [])) led.store (right.goes_on calls led.after).1));
  }

  pub led_promise : Formed m → Promise S m calls replies s
  led_promise formed = keeps_promise S m formed calls s led.formula led.store led.after replies led.replied

-- one more of the calls in a list
pub led_next :
    (S : Store) (m : Meaning) (calls more : List Called) (c : Called) (replies : List Replied) (reply : Replied) (t : Standing) → more ≡ calls ++ (c ∷ []) →
    Led S m (map meant_call calls ++ (meant_call c ∷ [])) (map meant_reply replies ++ (meant_reply reply ∷ [])) t →
    Led S m (map meant_call more) (map meant_reply (replies ++ (reply ∷ []))) t
led_next S m calls more c replies reply t e h =
    subst (λ cs. Led S m cs (map meant_reply (replies ++ (reply ∷ []))) t) (sym (ap (map meant_call) e ∙ map_push meant_call calls c))
    (subst (λ rs. Led S m (map meant_call calls ++ (meant_call c ∷ [])) rs t) (sym (map_push meant_reply replies reply)) h)
