-- The laws over any list of calls.
use Rattle.std.proofs.Common.{◌≡◌, ℕ, suc, ◌+◌, ◌*◌, ◌<◌, ◌≤◌, Bool, true, ◌⊎◌, List, [], ◌∷◌, ◌++◌, map, length, sym, refl, ap, ◌∙◌, subst, ap₂, inl, inr, ⊎_elim, append_assoc, mul-le-mul_right, suc-mul, mul-le-mul_left, arith}
use Rattle.std.specs.List.{range_with_len, AllByRecursion}
use Rattle.std.proofs.lemmas.List.{append-nil, length_push, same_from_push}
use Rattle.calculus.specs.Sets.{◌∈◌}
use Rattle.calculus.specs.Meaning.{Meaning, Formed}
use Rattle.laws.specs.Lines.{Line}
use Rattle.laws.specs.Derivations.{Permits, Follows}
use Rattle.laws.specs.Store.{Store, weights, Room, Closed}
use Rattle.laws.specs.Checks.{Granted, RefusedWith}
use Rattle.laws.specs.Claims.{Answer, keeps, refused, claim, closed}
use Rattle.laws.specs.Runs.{Call, claims, asks, Reply, granted, refusal, verdict, State, granted_claims, answered, called, run_from, start, run, Reached}
use Rattle.laws.specs.Refuting.{Part, kept_of, refutation_of}
use Rattle.laws.specs.Theorems.{Refutation}
use Rattle.laws.specs.Verdicts.{Begins, NothingLost, Ample, Says, ClaimsSuffice, RefutedExactlyIfFalse, StateRight, ReachedRight, VerdictRight, ClaimsAnswered}
use Rattle.laws.proofs.Sets.{in_append}
use Rattle.laws.proofs.Lines.{AllFine, permits_fine, push_fine, plainly, all_append, follows_length}
use Rattle.laws.proofs.Soundness.{tree_sound}
use Rattle.laws.proofs.Completeness.{proper_clause, Refuting, refuting, complete}
use Rattle.laws.proofs.Deciding.{closed_is, decided}

-- how the count of granted claims grows

pub count_append : (rs ts : List Reply) → granted_claims (rs ++ ts) ≡ granted_claims rs + granted_claims ts
count_append [] ts = omega arith
count_append (granted i ∷ rs) ts = let e : granted_claims (rs ++ ts) ≡ granted_claims rs + granted_claims ts = count_append rs ts in omega arith
count_append (refusal k ∷ rs) ts = count_append rs ts
count_append (verdict b k ∷ rs) ts = count_append rs ts

module _ (S : Store) (m : Meaning) where
  run_append : (s : State) (cs ds : List Call) → run_from S m s (cs ++ ds) ≡ run_from S m (run_from S m s cs) ds
  unfolding run_from
  run_append s [] ds = refl
  run_append s (c ∷ cs) ds = run_append (called S m s c) cs ds

  -- one call more
  pub called_after : (calls : List Call) (c : Call) → run S m (calls ++ (c ∷ [])) ≡ called S m (run S m calls) c
  unfolding run_from
  called_after calls c = run_append start calls (c ∷ [])

  at_start : Reached S m start
  unfolding run_from
  at_start = ([], refl)

  by_call : (s : State) (c : Call) → Reached S m s → Reached S m (called S m s c)
  by_call s c r = (r.0 ++ (c ∷ []), called_after r.0 c ∙ ap (λ t. called S m t c) r.1)

  what_is_said : (calls : List Call) (b : Bool) (k : ℕ) → Says S m calls b k → (b ≡ closed (run S m calls).kept) × (k ≡ granted_claims (run S m calls).replies)
  what_is_said calls b k h =
      let s : State = run S m calls in
      let e : verdict b k ≡ verdict (closed s.kept) (granted_claims s.replies) =
      (same_from_push s.replies s.replies (verdict b k) (verdict (closed s.kept) (granted_claims s.replies)) (sym h ∙ ap (λ t. t.replies) (called_after calls asks))).1 in
      (cc, cc)

  module _ (formed : Formed m) where
    -- after any calls
    record SoundState (s : State) : Type 0 where
      fine : AllFine m formed s.kept
      counted : granted_claims s.replies ≡ length s.kept

    after_answer : (s : State) (line : Line) (a : Answer) → claim S m s.kept line ≡ a → SoundState s → SoundState (answered s a)
    after_answer s line (keeps C) e r =
        let d : _ = decided S m s.kept line in
        let p : (Closed s.kept → ⊥) × Permits m s.kept line C × Room S s.kept C = (d.granting C).0 ((d.keeping C).0 e) in
        record {
          fine = push_fine m formed s.kept C r.fine (permits_fine m formed s.kept line C r.fine p.1);
          counted = omega (arith, r.counted, count_append s.replies (granted (length s.kept) ∷ []), length_push s.kept C);
        }
    after_answer s line (refused k) e r = record {
      fine = r.fine;
      counted = omega (arith, r.counted, count_append s.replies (refusal k ∷ []));
    }

    after_call : (s : State) (c : Call) → SoundState s → SoundState (called S m s c)
    after_call s (claims line) r = after_answer s line (claim S m s.kept line) refl r
    after_call s asks r = record {
      fine = r.fine;
      counted = omega (arith, r.counted, count_append s.replies (verdict (closed s.kept) (granted_claims s.replies) ∷ []));
    }

    after_calls : (s : State) (calls : List Call) → SoundState s → SoundState (run_from S m s calls)
    unfolding run_from
    after_calls s [] r = r
    after_calls s (c ∷ cs) r = after_calls (called S m s c) cs (after_call s c r)

    reached : (calls : List Call) → SoundState (run S m calls)
    reached calls = after_calls start calls (record { fine = λ D i. absurd i; counted = refl })

    state_right : (calls : List Call) → StateRight m (run S m calls)
    state_right calls = record {
      proper = λ C i. proper_clause m formed C ((reached calls).fine C i);
      derived = λ C i. plainly m formed C ((reached calls).fine C i);
      counted = (reached calls).counted;
      refuted = λ c. tree_sound m formed ((reached calls).fine [] c).0;
    }

    pub verdict_right : (calls : List Call) → VerdictRight S m calls
    verdict_right calls = record {
      changes_nothing = ap (λ t. t.kept) (called_after calls asks);
      said = (closed s.kept, ap (λ t. t.replies) (called_after calls asks) ∙ ap (λ k. s.replies ++ (verdict (closed s.kept) k ∷ [])) (state_right calls).counted);
      exactly = λ b k h. (
        λ e. (closed_is s.kept).0 (sym (what_is_said calls b k h).0 ∙ e),
        λ c. (what_is_said calls b k h).0 ∙ (closed_is s.kept).1 c,
      );
      false_then = λ k h. (state_right calls).refuted ((closed_is s.kept).0 (sym (what_is_said calls true k h).0));
      number = λ b k h. ((what_is_said calls b k h).1, (what_is_said calls b k h).1 ∙ (state_right calls).counted);
    }
      where
        s : State
        s = run S m calls

  pub reached_right : ReachedRight S m
  reached_right = record {
    at_start = at_start;
    by_call = by_call;
    right = λ formed s r. subst (StateRight m) r.1 (state_right formed r.0);
  }

  -- where there is room, lines that follow are granted one after the other, as long as the empty clause is not kept

  module _ (ample : Ample S) where
    abbrev Short : List (List ℕ) → Type 0
    Short Cs = AllByRecursion (λ C. length C ≤ 12) Cs

    light : (kept : List (List ℕ)) → Short kept → weights S kept ≤ length kept * (S.base + S.rate * 12)
    light [] s = omega arith
    light (C ∷ kept) s =
        let a : S.rate * length C ≤ S.rate * 12 = mul-le-mul_left S.rate s.0 in
        let b : weights S kept ≤ length kept * (S.base + S.rate * 12) = light kept s.1 in
        omega (arith, suc-mul (length kept) (S.base + S.rate * 12))

    fits : (kept : List (List ℕ)) (C : List ℕ) → length kept < 8191 → Short kept → length C ≤ 12 → Room S kept C
    fits kept C lt s c =
        let a : S.rate * length C ≤ S.rate * 12 = mul-le-mul_left S.rate c in
        let b : weights S kept ≤ length kept * (S.base + S.rate * 12) = light kept s in
        let d : suc (length kept) * (S.base + S.rate * 12) ≤ 8191 * (S.base + S.rate * 12) = mul-le-mul_right (S.base + S.rate * 12) lt in
        (omega arith, omega (arith, suc-mul (length kept) (S.base + S.rate * 12)))

    -- before each of the clauses, no empty one is kept
    abbrev Open : List (List ℕ) → List (List ℕ) → Type 0
    Open kept [] = Unit {0}
    Open kept (C ∷ Cs) = (Closed kept → ⊥) × Open (kept ++ (C ∷ [])) Cs

    open_before : (kept front : List (List ℕ)) (C : List ℕ) → (Closed kept → ⊥) → ((D : List ℕ) → D ∈ front → D ≡ [] → ⊥) → Open kept (front ++ (C ∷ []))
    open_before kept [] C n none = (n, tt)
    open_before kept (D ∷ front) C n none =
        (n, open_before (kept ++ (D ∷ [])) front C (λ i. ⊎_elim n (⊎_elim (λ e. none D (inl refl) (sym e)) (λ k. k)) (in_append [] kept (D ∷ []) i)) (λ E i. none E (inr i)))

    all_granted :
        (s : State) (ls : List Line) (Cs : List (List ℕ)) → Follows m s.kept ls Cs → Open s.kept Cs → Short s.kept → Short Cs → length s.kept + length ls ≤ 8191 →
        run_from S m s (map claims ls) ≡ record { replies = s.replies ++ map granted (range_with_len (length s.kept) (length ls)); kept = s.kept ++ Cs }
    unfolding run_from
    all_granted s [] [] r o short shorts few = ap₂ (λ x y. record { replies = x; kept = y }) (sym (append-nil s.replies)) (sym (append-nil s.kept))
    all_granted s [] (C ∷ Cs) r o short shorts few = absurd r
    all_granted s (l ∷ ls) [] r o short shorts few = absurd r
    all_granted s (l ∷ ls) (C ∷ Cs) (p, r) (n, o) short (c, shorts) few =
        let e : claim S m s.kept l ≡ keeps C =
        ((decided S m s.kept l).keeping C).1 (((decided S m s.kept l).granting C).1 (n, p, fits s.kept C (omega arith) short c)) in
        let t : State = answered s (keeps C) in
        ap (λ a. run_from S m (answered s a) (map claims ls)) e
        ∙ (all_granted t ls Cs r o (all_append (λ D. length D ≤ 12) s.kept (C ∷ []) short (c, tt)) shorts (omega (arith, length_push s.kept C))
        ∙ ap₂ (λ x y. record { replies = x; kept = y })
        (append_assoc s.replies (granted (length s.kept) ∷ []) (map granted (range_with_len (length t.kept) (length ls)))
        ∙ ap (λ k. s.replies ++ (granted (length s.kept) ∷ map granted (range_with_len k (length ls)))) (length_push s.kept C))
        (append_assoc s.kept (C ∷ []) Cs))

pub claims_suffice : ClaimsSuffice
claims_suffice S m formed small h ample =
    let a : Part = refutation_of m in
    let r : Refuting m formed = refuting m formed h in
    let R : Refutation m a.lines (kept_of a) = complete m formed small h in
    let e : run S m (map claims a.lines) ≡ record { replies = map granted (range_with_len 0 (length a.lines)); kept = kept_of a } =
    all_granted S m ample start a.lines (kept_of a) R.derivation (open_before S m ample [] a.front a.clause (λ i. i) r.none_empty) tt R.short (omega (arith, R.few)) in
    let c : closed (run S m (map claims a.lines)).kept ≡ true = ap (λ s. closed s.kept) e ∙ (closed_is (kept_of a)).1 R.closed in
    let d : granted_claims (run S m (map claims a.lines)).replies ≡ length a.lines =
    (state_right S m formed (map claims a.lines)).counted ∙ (ap (λ s. length s.kept) e ∙ follows_length m [] a.lines (kept_of a) R.derivation) in
    (e, ap (λ t. t.replies) (called_after S m (map claims a.lines) asks) ∙ ap₂ (λ b n. (run S m (map claims a.lines)).replies ++ (verdict b n ∷ [])) c d)

pub refuted_exactly_if_false : RefutedExactlyIfFalse
refuted_exactly_if_false S m formed small ample = (
  λ h. (verdict_right S m formed h.0).false_then h.1 h.2,
  λ e. (map claims (refutation_of m).lines, length (refutation_of m).lines, (claims_suffice S m formed small e ample).1),
)

-- each claim is answered by its checks

answered_by :
    (S : Store) (m : Meaning) (s : State) (line : Line) (a : Answer) → claim S m s.kept line ≡ a →
    ((C : List ℕ) × Granted S m s.kept line C × (answered s a ≡ record { replies = s.replies ++ (granted (length s.kept) ∷ []); kept = s.kept ++ (C ∷ []) })) ⊎
    ((k : ℕ) × RefusedWith S m s.kept line k × (answered s a ≡ record { replies = s.replies ++ (refusal k ∷ []); kept = s.kept }))
answered_by S m s line (keeps C) e = inl (C, ((decided S m s.kept line).keeping C).0 e, refl)
answered_by S m s line (refused k) e = inr (k, ((decided S m s.kept line).refusing k).0 e, refl)

pub claims_answered : ClaimsAnswered
claims_answered S m calls line =
    let s : State = run S m calls in
    let e : run S m (calls ++ (claims line ∷ [])) ≡ answered s (claim S m s.kept line) = called_after S m calls (claims line) in
    ⊎_elim (λ h. inl (h.0, h.1, e ∙ h.2)) (λ h. inr (h.0, h.1, e ∙ h.2)) (answered_by S m s line (claim S m s.kept line) refl)

-- nothing is lost

begins_answer : (s : State) (a : Answer) → Begins s (answered s a)
begins_answer s (keeps C) = (granted (length s.kept) ∷ [], C ∷ [], refl, refl)
begins_answer s (refused k) = (refusal k ∷ [], [], refl, sym (append-nil s.kept))

begins_call : (S : Store) (m : Meaning) (s : State) (c : Call) → Begins s (called S m s c)
begins_call S m s (claims line) = begins_answer s (claim S m s.kept line)
begins_call S m s asks = (verdict (closed s.kept) (granted_claims s.replies) ∷ [], [], refl, sym (append-nil s.kept))

begins_further : (s t u : State) → Begins s t → Begins t u → Begins s u
begins_further s t u (rs, Cs, e, f) (rs', Cs', e', f') = (
  rs ++ rs',
  Cs ++ Cs',
  e' ∙ (ap (λ x. x ++ rs') e ∙ append_assoc s.replies rs rs'),
  f' ∙ (ap (λ x. x ++ Cs') f ∙ append_assoc s.kept Cs Cs'),
)

begins_calls : (S : Store) (m : Meaning) (s : State) (cs : List Call) → Begins s (run_from S m s cs)
unfolding run_from
begins_calls S m s [] = ([], [], sym (append-nil s.replies), sym (append-nil s.kept))
begins_calls S m s (c ∷ cs) = begins_further s (called S m s c) (run_from S m (called S m s c) cs) (begins_call S m s c) (begins_calls S m (called S m s c) cs)

pub nothing_lost : NothingLost
nothing_lost S m calls more = subst (Begins (run S m calls)) (sym (run_append S m start calls more)) (begins_calls S m (run S m calls) more)
