-- From the checks that hold or fail to the answer of a claim, and from the answer to what calls lead to.
use Rattle.std.proofs.Common.{◌≡◌, ℕ, Bool, true, false, not, ◌||◌, ◌↔◌, List, [], ◌∷◌, ◌++◌, length, Ok, Err, Result, MatchResult, sym, refl, ap, ◌∙◌, subst, inl, inr, arith}
use Rattle.std.proofs.lemmas.Bool.{or_parts, not-true, not_from_false}
use Rattle.laws.specs.Checks.{Check, conditions, Hold, FailsWith}
use Rattle.laws.specs.Claims.{Answer, keeps, refused, claim, is_empty, closed}
use Rattle.laws.specs.Derivations.{Gives, Permits}
use Rattle.laws.specs.Lines.{Line}
use Rattle.laws.specs.Runs.{Call, claims, State, answered, run}
use Rattle.laws.specs.Store.{Room}
use Rattle.laws.specs.When.{checks_when, claim_when, DecidedWhen}
use Rattle.laws.proofs.Calls.{called_after}
use Rattle.laws.proofs.Deciding.{claim_is_when, decided_when}
use Rattle.laws.proofs.Rules.{gives_given, gives_one}
use Rattle.case.specs.Answers.{refusal_number, claim_reply}
use Rattle.case.specs.Claimed.{outcome, clause_by, Claimed, Judged, After, GoesOn, ClaimRight}
use Rattle.case.specs.Standing.{Standing, with_line}
use Rattle.case.specs.Steps.{KeepsLine}
use Rattle.case.specs.declared.refusal.Refusal.{Refusal}

-- all checks hold, and the clause is kept as the next line; or some check fails, and nothing has changed
abbrev pub Decides : Standing → Line → Result ℕ Refusal → Standing → Type 0
Decides s line r t =
    MatchResult r (λ p. Hold (checks_when (s.refuted ≡ false) s.shelf.store s.formula s.shelf.kept line) × (p ≡ length s.shelf.kept) × (t ≡ with_line s (clause_by s line)))
    (λ e. FailsWith (refusal_number e) (checks_when (s.refuted ≡ false) s.shelf.store s.formula s.shelf.kept line) × (t ≡ s))

-- conditions one after the other

holds_append : (cs ds : List Check) → Hold cs → Hold ds → Hold (cs ++ ds)
holds_append [] ds h k = k
holds_append (c ∷ cs) ds (p, h) k = (p, holds_append cs ds h k)

fails_append : (n : ℕ) (cs ds : List Check) → FailsWith n cs → FailsWith n (cs ++ ds)
fails_append n [] ds h = absurd h
fails_append n (c ∷ cs) ds (inl h) = inl h
fails_append n (c ∷ cs) ds (inr (p, h)) = inr (p, fails_append n cs ds h)

fails_behind : (n : ℕ) (cs ds : List Check) → Hold cs → FailsWith n ds → FailsWith n (cs ++ ds)
fails_behind n [] ds h k = k
fails_behind n (c ∷ cs) ds (p, h) k = inr (p, fails_behind n cs ds h k)

module _ (s : Standing) (line : Line) where
  abbrev rule_checks : List Check
  rule_checks = conditions s.formula s.shelf.kept line

  -- the last check: there is room for the rule's clause
  abbrev Fits : Type 0
  Fits = (C : List ℕ) → Gives s.formula s.shelf.kept line C → Room s.shelf.store s.shelf.kept C

  gives_clause : Gives s.formula s.shelf.kept line (clause_by s line)
  gives_clause = gives_given s.formula s.shelf.kept line

  fits : Room s.shelf.store s.shelf.kept (clause_by s line) → Fits
  fits r C g = subst (Room s.shelf.store s.shelf.kept) (sym (gives_one s.formula s.shelf.kept line C g)) r

  -- a condition of the rule fails
  pub fails_before : (e : Refusal) → s.refuted ≡ false → FailsWith (refusal_number e) (conditions s.formula s.shelf.kept line) → Decides s line (Err e) s
  fails_before e o h = (inr (o, fails_append (refusal_number e) rule_checks ((38, Fits) ∷ []) h), refl)

  -- the conditions of the rule hold, and its clause is kept where there is room
  pub decides_kept :
      (r : Result ℕ Refusal) (t : Standing) → s.refuted ≡ false → Hold (conditions s.formula s.shelf.kept line) → KeepsLine s (clause_by s line) r t →
      Decides s line r t
  decides_kept (Ok p) t o h (room, e, f) = ((o, holds_append rule_checks ((38, Fits) ∷ []) h (fits room, tt)), e, f)
  decides_kept (Err x) t o h (full, e, f) =
      (inr (o, fails_behind (refusal_number x) rule_checks ((38, Fits) ∷ []) h (inl (ap refusal_number e, λ k. full (k (clause_by s line) gives_clause)))), f)

  still_open : (not s.refuted ≡ true) ↔ (s.refuted ≡ false)
  still_open = (not-true s.refuted, not_from_false s.refuted)

  decided_here : DecidedWhen s.refuted (s.refuted ≡ false) s.shelf.store s.formula s.shelf.kept line
  decided_here = decided_when s.refuted (s.refuted ≡ false) still_open s.shelf.store s.formula s.shelf.kept line

  -- what the checks decide is the answer of the calculus
  pub decides_claimed : (r : Result ℕ Refusal) (t : Standing) → Decides s line r t → Claimed s line r t
  decides_claimed (Ok p) t (h, e, f) = ((decided_here.keeping (clause_by s line)).1 (h, gives_clause), e, f)
  decides_claimed (Err x) t (h, f) = ((decided_here.refusing (refusal_number x)).1 h, f)

  -- and back
  pub claimed_decides : (r : Result ℕ Refusal) (t : Standing) → Claimed s line r t → Decides s line r t
  claimed_decides (Ok p) t (h, e, f) = (((decided_here.keeping (clause_by s line)).0 h).0, e, f)
  claimed_decides (Err x) t (h, f) = ((decided_here.refusing (refusal_number x)).0 h, f)

  not_both : (C : List ℕ) (k : ℕ) (a : Answer) → a ≡ keeps C → a ≡ refused k → ⊥
  not_both C k a e f = let z : ◌≡◌ {A = ℕ} 0 1 = cc in omega arith

  -- and it is what the calculus permits
  pub decides_judged : (r : Result ℕ Refusal) (t : Standing) → Decides s line r t → Judged s line r t
  decides_judged (Ok p) t (h, e, f) =
      let g : (s.refuted ≡ false) × Permits s.formula s.shelf.kept line (clause_by s line) × Room s.shelf.store s.shelf.kept (clause_by s line) =
      (decided_here.granting (clause_by s line)).0 (h, gives_clause) in
      record {
        granted = (λ x. (g.0, (clause_by s line, g.1, g.2)), λ x. (p, refl));
        kept = λ q k. (clause_by s line, g.1, (let j : q ≡ p = cc in j ∙ e), f);
        refused = λ x k. absurd (let z : ◌≡◌ {A = ℕ} 0 1 = cc in omega arith);
      }
  decides_judged (Err x) t (h, f) = record {
    granted = (
      λ k. absurd (let (p, j) = k in let z : ◌≡◌ {A = ℕ} 0 1 = cc in omega arith),
      λ k. let (o, (C, permitted, room)) = k in
          absurd (not_both C (refusal_number x) (outcome s line) ((decided_here.keeping C).1 ((decided_here.granting C).1 (o, permitted, room))) ((decided_here.refusing (refusal_number x)).1 h)),
    );
    kept = λ q k. absurd (let z : ◌≡◌ {A = ℕ} 0 1 = cc in omega arith);
    refused = λ y k. let j : x ≡ y = cc in
        (subst (λ z. FailsWith (refusal_number z) (checks_when (s.refuted ≡ false) s.shelf.store s.formula s.shelf.kept line)) j h, f);
  }

-- one clause more closes a case exactly if it is empty

or_false : (b : Bool) → (b || false) ≡ b
or_false true = refl
or_false false = refl

pub closed_push : (kept : List (List ℕ)) (C : List ℕ) → closed kept ≡ false → closed (kept ++ (C ∷ [])) ≡ is_empty C
closed_push [] C h = or_false (is_empty C)
closed_push (D ∷ kept) C h =
    let p : (is_empty D ≡ false) × (closed kept ≡ false) = or_parts (is_empty D) (closed kept) h in
    ap (λ b. b || closed (kept ++ (C ∷ []))) p.0 ∙ closed_push kept C p.1

module _ (s : Standing) (line : Line) where
  abbrev before : List Call → State
  before calls = run s.shelf.store s.formula calls

  abbrev after : List Call → State
  after calls = run s.shelf.store s.formula (calls ++ (claims line ∷ []))

  -- the claim is answered as the case answers it
  claimed_after : (calls : List Call) (a : Answer) → After calls s → outcome s line ≡ a → after calls ≡ answered (before calls) a
  claimed_after calls a h e =
      called_after s.shelf.store s.formula calls (claims line)
      ∙ ap (answered (before calls))
      (ap (λ kept. claim s.shelf.store s.formula kept line) (sym h.kept)
      ∙ (claim_is_when s.shelf.store s.formula s.shelf.kept line
      ∙ ap (λ b. claim_when b s.shelf.store s.formula s.shelf.kept line) (sym h.refuted) ∙ e))

  -- so calls go on with this claim
  pub claimed_goes_on : (r : Result ℕ Refusal) (t : Standing) → Claimed s line r t → GoesOn s (claims line) (claim_reply r) t
  claimed_goes_on (Ok p) t (e, l, f) calls h = (
    subst (After (calls ++ (claims line ∷ []))) (sym f) stands,
    ap (λ u. u.replies) x ∙ ap (λ q. (before calls).replies ++ (claim_reply (Ok q) ∷ [])) (ap length (sym h.kept) ∙ sym l),
  )
    where
      x : after calls ≡ answered (before calls) (keeps (clause_by s line))
      x = claimed_after calls (keeps (clause_by s line)) h e

      still : s.refuted ≡ false
      still = (claimed_decides s line (Ok p) t (e, l, f)).0.0

      stands : After (calls ++ (claims line ∷ [])) (with_line s (clause_by s line))
      stands = record {
        kept = ap (λ kept. kept ++ (clause_by s line ∷ [])) h.kept ∙ sym (ap (λ u. u.kept) x);
        refuted = sym (closed_push s.shelf.kept (clause_by s line) (sym h.refuted ∙ still));
      }
  claimed_goes_on (Err y) t (e, f) calls h =
      let x : after calls ≡ answered (before calls) (refused (refusal_number y)) = claimed_after calls (refused (refusal_number y)) h e in
      let stands : After (calls ++ (claims line ∷ [])) s = record { kept = h.kept ∙ sym (ap (λ u. u.kept) x); refuted = h.refuted } in
      (subst (After (calls ++ (claims line ∷ []))) (sym f) stands, ap (λ u. u.replies) x)

  pub decides_goes_on : (r : Result ℕ Refusal) (t : Standing) → Decides s line r t → GoesOn s (claims line) (claim_reply r) t
  decides_goes_on r t d = claimed_goes_on r t (decides_claimed s line r t d)

  pub claim_right : (r : Result ℕ Refusal) (t : Standing) → Decides s line r t → ClaimRight s line r t
  claim_right r t d = record { answered = decides_claimed s line r t d; judged = decides_judged s line r t d; goes_on = decides_goes_on r t d }
