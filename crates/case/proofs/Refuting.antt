-- Some list of calls ends with the verdict Refuted exactly if the formula is false.
use Rattle.std.proofs.Common.{◌≡◌, ℕ, ◌≤◌, true, false, ◌↔◌, List, [], ◌∷◌, ◌++◌, map, length, sym, refl, ap, ◌∙◌, subst, ap₂, inl}
use Rattle.std.specs.List.{AllByRecursion}
use Rattle.std.proofs.lemmas.List.{map_push}
use Rattle.calculus.specs.Meaning.{Meaning, Formed}
use Rattle.calculus.specs.Sets.{◌∈◌}
use Rattle.calculus.specs.Truth.{truth}
use Rattle.laws.specs.Lines.{Line, axiom_line, resolution, reduction, symmetry, Plain}
use Rattle.laws.specs.Refuting.{refutation_of}
use Rattle.laws.specs.Replies.{Replies}
use Rattle.laws.specs.Runs.{claims, asks, Reply, verdict, run}
use Rattle.laws.specs.Store.{Store, Space}
use Rattle.laws.proofs.Calls.{claims_suffice}
use Rattle.laws.proofs.Completeness.{complete}
use Rattle.laws.proofs.Replies.{one_outcome}
use Rattle.laws.proofs.Sets.{in_right}
use Rattle.case.specs.Answers.{meant_call}
use Rattle.case.specs.Promise.{EndsRefuted}
use Rattle.case.specs.declared.call.Call.{Call}
use Rattle.case.specs.declared.call.Call.TheVariants.{Claim, Verdict}
use Rattle.case.specs.declared.claim.Claim.TheVariants.{Axiom, Resolution, Reduction}
use Rattle.case.proofs.Verdicts.{said_false}

-- the call that claims a line, where it is no symmetry line
call_of : (l : Line) → Plain l → (c : Call) × (meant_call c ≡ claims l)
call_of (axiom_line j) p = (Claim (Axiom j), refl)
call_of (resolution i j v) p = (Claim (Resolution i j v), refl)
call_of (reduction i v) p = (Claim (Reduction i v), refl)
call_of (symmetry i card) p = absurd p

calls_of : (ls : List Line) → AllByRecursion Plain ls → (cs : List Call) × (map meant_call cs ≡ map claims ls)
calls_of [] ps = ([], refl)
calls_of (l ∷ ls) (p, ps) =
    let (c, e) = call_of l p in
    let (cs, es) = calls_of ls ps in
    (c ∷ cs, ap₂ (λ x xs. x ∷ xs) e es)

module _ (S : Store) (m : Meaning) (formed : Formed m) (small : m.n ≤ 12) (ample : Space S 8191 12) where
  ended_false : EndsRefuted S m → truth m ≡ false
  ended_false (calls, replies, kept, k, r) =
      said_false S m formed (map meant_call calls) k
      (subst (λ rs. verdict true k ∈ rs) ((one_outcome S m (map meant_call calls) (replies ++ (verdict true k ∷ [])) kept).0 r).0
      (in_right (verdict true k) replies (verdict true k ∷ []) (inl refl)))

  false_ends : truth m ≡ false → EndsRefuted S m
  false_ends h =
      let ls : List Line = (refutation_of m).lines in
      let (cs, e) = calls_of ls (complete m formed small h).plain in
      let f : map meant_call (cs ++ (Verdict ∷ [])) ≡ map claims ls ++ (asks ∷ []) = map_push meant_call cs Verdict ∙ ap (λ xs. xs ++ (asks ∷ [])) e in
      let replies : List Reply = (run S m (map claims ls)).replies in
      let kept : List (List ℕ) = (run S m (map claims ls ++ (asks ∷ []))).kept in (
        cs ++ (Verdict ∷ []),
        replies,
        kept,
        length ls,
        subst (λ calls. Replies S m calls (replies ++ (verdict true (length ls) ∷ [])) kept) (sym f)
            ((one_outcome S m (map claims ls ++ (asks ∷ [])) (replies ++ (verdict true (length ls) ∷ [])) kept).1 (sym (claims_suffice S m formed small h ample.1).1, refl)),
      )

  pub ends_refuted_is : EndsRefuted S m ↔ (truth m ≡ false)
  ends_refuted_is = (ended_false, false_ends)
