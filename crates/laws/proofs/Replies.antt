-- The relation between calls and their replies holds of what the calls compute, and of nothing else.
use Rattle.std.proofs.Common.{◌≡◌, ℕ, ◌+◌, Bool, true, false, List, [], ◌∷◌, ◌++◌, length, sym, refl, ap, ◌∙◌, subst, ap₂, append_assoc}
use Rattle.std.proofs.lemmas.List.{append-nil}
use Rattle.calculus.specs.Meaning.{Meaning}
use Rattle.laws.specs.Lines.{Line}
use Rattle.laws.specs.Store.{Store}
use Rattle.laws.specs.Claims.{Answer, keeps, refused, claim, closed}
use Rattle.laws.specs.Runs.{Call, claims, asks, Reply, granted, refusal, verdict, State, granted_claims, answered, called, run_from, start, run}
use Rattle.laws.specs.Replies.{Replied, RepliedEach, Replies, CallsHaveOneOutcome}
use Rattle.laws.proofs.Deciding.{closed_is, decided}
use Rattle.laws.proofs.Calls.{count_append}

-- two tests that are true together are the same
same_test : (a b : Bool) → (a ≡ true → b ≡ true) → (b ≡ true → a ≡ true) → a ≡ b
same_test true b f g = sym (f refl)
same_test false true f g = g refl
same_test false false f g = refl

-- the state s with these replies behind its own, and with the clauses kept then
abbrev pub replying : State → List Reply → List (List ℕ) → State
replying s rs then = record { replies = s.replies ++ rs; kept = then }

module _ (S : Store) (m : Meaning) where
  -- the reply and the clauses that a call in the state s may have
  abbrev pub RepliedIn : State → Call → Reply → List (List ℕ) → Type 0
  RepliedIn s c r then = Replied S m s.kept (granted_claims s.replies) c r then

  -- the same for calls one by one
  abbrev pub RepliedEachIn : State → List Call → List Reply → List (List ℕ) → Type 0
  RepliedEachIn s cs rs last = RepliedEach S m s.kept (granted_claims s.replies) cs rs last

  -- one call

  pub replied_called : (s : State) (c : Call) (r : Reply) (then : List (List ℕ)) → RepliedIn s c r then → called S m s c ≡ replying s (r ∷ []) then
  replied_called s (claims line) (granted p) then (C, g, e, f) =
      ap (answered s) (((decided S m s.kept line).keeping C).1 g) ∙ ap₂ (λ q Cs. replying s (granted q ∷ []) Cs) (sym e) (sym f)
  replied_called s (claims line) (refusal k) then (h, f) =
      ap (answered s) (((decided S m s.kept line).refusing k).1 h) ∙ ap (replying s (refusal k ∷ [])) (sym f)
  replied_called s (claims line) (verdict b k) then h = absurd h
  replied_called s asks (granted p) then h = absurd h
  replied_called s asks (refusal k) then h = absurd h
  replied_called s asks (verdict b k) then (d, e, f) =
      let t : closed s.kept ≡ b = same_test (closed s.kept) b (λ h. d.1 ((closed_is s.kept).0 h)) (λ h. (closed_is s.kept).1 (d.0 h)) in
      ap₂ (λ x n. replying s (verdict x n ∷ []) s.kept) t (sym e) ∙ ap (replying s (verdict b k ∷ [])) (sym f)

  replied_answer :
      (s : State) (line : Line) (a : Answer) → claim S m s.kept line ≡ a →
      (r : Reply) × RepliedIn s (claims line) r (answered s a).kept × (answered s a ≡ replying s (r ∷ []) (answered s a).kept)
  replied_answer s line (keeps C) e = (granted (length s.kept), (C, ((decided S m s.kept line).keeping C).0 e, refl, refl), refl)
  replied_answer s line (refused k) e = (refusal k, (((decided S m s.kept line).refusing k).0 e, refl), refl)

  pub called_replied :
      (s : State) (c : Call) →
      (r : Reply) × RepliedIn s c r (called S m s c).kept × (called S m s c ≡ replying s (r ∷ []) (called S m s c).kept)
  called_replied s (claims line) = replied_answer s line (claim S m s.kept line) refl
  called_replied s asks = (verdict (closed s.kept) (granted_claims s.replies), (closed_is s.kept, refl, refl), refl)

  -- calls one by one

  pub replied_each_run :
      (s : State) (cs : List Call) (rs : List Reply) (last : List (List ℕ)) → RepliedEachIn s cs rs last → run_from S m s cs ≡ replying s rs last
  unfolding run_from
  replied_each_run s [] [] last h = ap₂ (λ x y. record { replies = x; kept = y }) (sym (append-nil s.replies)) (sym h)
  replied_each_run s [] (r ∷ rs) last h = absurd h
  replied_each_run s (c ∷ cs) [] last h = absurd h
  replied_each_run s (c ∷ cs) (r ∷ rs) last (then, h, hs) =
      let t : State = replying s (r ∷ []) then in
      ap (λ u. run_from S m u cs) (replied_called s c r then h)
      ∙ (replied_each_run t cs rs last (subst (λ n. RepliedEach S m then n cs rs last) (sym (count_append s.replies (r ∷ []))) hs)
      ∙ ap (λ x. record { replies = x; kept = last }) (append_assoc s.replies (r ∷ []) rs))

  pub run_replied_each :
      (s : State) (cs : List Call) →
      (rs : List Reply) × RepliedEachIn s cs rs (run_from S m s cs).kept × (run_from S m s cs ≡ replying s rs (run_from S m s cs).kept)
  unfolding run_from
  run_replied_each s [] = ([], refl, ap (λ x. record { replies = x; kept = s.kept }) (sym (append-nil s.replies)))
  run_replied_each s (c ∷ cs) =
      let t : State = called S m s c in
      let (r, h, e) = called_replied s c in
      let (rs, hs, f) = run_replied_each t cs in
      let n : granted_claims t.replies ≡ granted_claims s.replies + granted_claims (r ∷ []) =
      ap (λ u. granted_claims u.replies) e ∙ count_append s.replies (r ∷ []) in (
        r ∷ rs,
        (t.kept, h, subst (λ k. RepliedEach S m t.kept k cs rs (run_from S m t cs).kept) n hs),
        f ∙ ap (λ x. record { replies = x; kept = (run_from S m t cs).kept }) (ap (λ u. u.replies ++ rs) e ∙ append_assoc s.replies (r ∷ []) rs),
      )

pub one_outcome : CallsHaveOneOutcome
one_outcome S m calls replies kept = (
  λ h. let e : run S m calls ≡ record { replies = replies; kept = kept } = replied_each_run S m start calls replies kept h in (sym (ap (λ s. s.replies) e), sym (ap (λ s. s.kept) e)),
  λ h. let (rs, hs, f) = run_replied_each S m start calls in
      let e : rs ≡ replies = sym (h.0 ∙ ap (λ s. s.replies) f) in
      subst (λ x. Replies S m calls x kept) e (subst (Replies S m calls rs) (sym h.1) hs),
)
