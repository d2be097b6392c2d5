-- Examining comes to one end only: two runs of granted lines that each stop where the docket ends or has a fault are the same run.
use Rattle.std.proofs.Common.{◌≡◌, ℕ, ◌+◌, ◌<◌, List, [], ◌∷◌, ◌++◌, length, drop, Ok, Err, Result, sym, refl, ap, ◌∙◌, subst, append_assoc, arith, length-append, drop-drop}
use lib.Seq.{drop-append_seam}
use Rattle.std.specs.List.{AllByRecursion}
use Rattle.laws.specs.Lines.{Line}
use Rattle.case.specs.Claimed.{Claimed}
use Rattle.case.specs.Standing.{Standing}
use Rattle.dockets.specs.Encoding.{Entry, encoded, encoded_all, Writable}
use Rattle.dockets.specs.Reading.{entry_at}
use Rattle.dockets.proofs.Joining.{some_bytes, prefix_free}
use Rattle.dockets.proofs.Outcomes.{outcomes}
use Rattle.dockets.proofs.ReadsBack.{reads}
use Rattle.faults.specs.declared.docket_fault.DocketFault.{DocketFault}
use Rattle.faults.specs.declared.docket_fault.DocketFault.TheVariants.{Line as InLine, Claim as InClaim}
use Rattle.faults.specs.declared.report_fault.ReportFault.{ReportFault}
use Rattle.faults.specs.declared.report_fault.ReportFault.TheVariants.{Text, Docket}
use Rattle.examining.specs.Entries.{Claims, GrantedEach}
use Rattle.examining.specs.Examined.{Begins, NextFault, Examined, EndsOnce}
use Rattle.examining.proofs.Deciding.{one_line, one_granted, one_refusal, granted_or_refused}

-- examining stops at an offset, where this is the rest of the docket
abbrev Stops : List ℕ → ℕ → List ℕ → Standing → Result (Unit {0}) ReportFault → Type 0
Stops docket at rest t (Ok done) = rest ≡ []
Stops docket at rest t (Err (Text fault)) = ⊥
Stops docket at rest t (Err (Docket fault lines)) = (0 < length rest) × (lines ≡ length t.shelf.kept) × NextFault docket at t fault

module _ (docket : List ℕ) (at : ℕ) (t : Standing) where
  one_fault : (fault other : DocketFault) → NextFault docket at t fault → NextFault docket at t other → fault ≡ other
  one_fault (InLine a) (InLine b) f g = ap InLine ((outcomes docket at).one_fault a b f g)
  one_fault (InLine a) (InClaim e byte) f g = absurd ((outcomes docket at).never_both a g.0 f)
  one_fault (InClaim e byte) (InLine b) f g = absurd ((outcomes docket at).never_both b f.0 g)
  one_fault (InClaim e byte) (InClaim e' byte') (holds, is, (line, c, f)) (holds', is', (line', c', f')) =
      let same : line ≡ line' = one_line (entry_at docket at) line line' c c' in
      let refusal : e ≡ e' = one_refusal t line' e e' t t (subst (λ l. Claimed t l (Err e) t) same f) f' in
      λ i. InClaim (refusal i) ((is ∙ sym is') i)

  one_stop : (rest : List ℕ) (r r' : Result (Unit {0}) ReportFault) → Stops docket at rest t r → Stops docket at rest t r' → r ≡ r'
  one_stop rest (Ok done) (Ok done') a b = refl
  one_stop rest (Ok done) (Err (Text fault)) a b = absurd b
  one_stop rest (Ok done) (Err (Docket fault lines)) a b = absurd (omega (arith, b.0, ap length a))
  one_stop rest (Err (Text fault)) r' a b = absurd a
  one_stop rest (Err (Docket fault lines)) (Ok done) a b = absurd (omega (arith, a.0, ap length b))
  one_stop rest (Err (Docket fault lines)) (Err (Text other)) a b = absurd b
  one_stop rest (Err (Docket fault lines)) (Err (Docket other lines')) (some, e, f) (some', e', f') =
      let same : fault ≡ other = one_fault fault other f f' in
      λ i. Err (Docket (same i) ((e ∙ sym e') i))

  -- examining does not stop before a line that is granted
  never_before :
      (entry : Entry) (behind : List ℕ) (line : Line) (p : ℕ) (u : Standing) → drop at docket ≡ encoded entry ++ behind → Writable entry → Claims entry line →
      Claimed t line (Ok p) u → (r : Result (Unit {0}) ReportFault) → Stops docket at (encoded entry ++ behind) t r → ⊥
  never_before entry behind line p u e w c g (Ok done) stops = omega (arith, some_bytes entry, length-append (encoded entry) behind, ap length stops)
  never_before entry behind line p u e w c g (Err (Text fault)) stops = stops
  never_before entry behind line p u e w c g (Err (Docket (InLine fault) lines)) (some, is, fails) =
      (outcomes docket at).never_both fault (reads docket at entry behind e w).holds fails
  never_before entry behind line p u e w c g (Err (Docket (InClaim refusal byte) lines)) (some, is, (holds, here, (line', c', f))) =
      let same : line' ≡ line = one_line entry line' line (subst (λ x. Claims x line') (reads docket at entry behind e w).entry_is c') c in
      granted_or_refused t line p refusal u t g (subst (λ l. Claimed t l (Err refusal) t) same f)

-- from an offset on
ends :
    (docket : List ℕ) (at : ℕ) (s : Standing) (xs ys : List Entry) (a b : List ℕ) (r r' : Result (Unit {0}) ReportFault) (t t' : Standing) →
    drop at docket ≡ encoded_all xs ++ a → drop at docket ≡ encoded_all ys ++ b → AllByRecursion Writable xs → AllByRecursion Writable ys → GrantedEach s xs t → GrantedEach s ys t' →
    Stops docket (at + length (encoded_all xs)) a t r → Stops docket (at + length (encoded_all ys)) b t' r' → (r ≡ r') × (t ≡ t')
ends docket at s [] [] a b r r' t t' e f v w g h i j =
    let same : t ≡ t' = g ∙ sym h in
    (one_stop docket (at + 0) t' b r r' (subst (λ x. Stops docket (at + 0) b x r) same (subst (λ l. Stops docket (at + 0) l t r) (sym e ∙ f) i)) j, same)
ends docket at s [] (y ∷ ys) a b r r' t t' e f v (w, ws) g (line, p, u, c, granted, more) i j =
    let split : drop at docket ≡ encoded y ++ (encoded_all ys ++ b) = f ∙ append_assoc (encoded y) (encoded_all ys) b in
    let here : at + 0 ≡ at = omega arith in
    absurd (never_before docket at s y (encoded_all ys ++ b) line p u split w c granted r
    (subst (λ n. Stops docket n (encoded y ++ (encoded_all ys ++ b)) s r) here
    (subst (λ x. Stops docket (at + 0) (encoded y ++ (encoded_all ys ++ b)) x r) g
    (subst (λ l. Stops docket (at + 0) l t r) (sym e ∙ split) i))))
ends docket at s (x ∷ xs) [] a b r r' t t' e f (v, vs) w (line, p, u, c, granted, more) h i j =
    let split : drop at docket ≡ encoded x ++ (encoded_all xs ++ a) = e ∙ append_assoc (encoded x) (encoded_all xs) a in
    let here : at + 0 ≡ at = omega arith in
    absurd (never_before docket at s x (encoded_all xs ++ a) line p u split v c granted r'
    (subst (λ n. Stops docket n (encoded x ++ (encoded_all xs ++ a)) s r') here
    (subst (λ z. Stops docket (at + 0) (encoded x ++ (encoded_all xs ++ a)) z r') h
    (subst (λ l. Stops docket (at + 0) l t' r') (sym f ∙ split) j))))
ends docket at s (x ∷ xs) (y ∷ ys) a b r r' t t' e f (v, vs) (w, ws) (line, p, u, c, granted, more) (line', p', u', c', granted', more') i j =
    let split : drop at docket ≡ encoded x ++ (encoded_all xs ++ a) = e ∙ append_assoc (encoded x) (encoded_all xs) a in
    let split' : drop at docket ≡ encoded y ++ (encoded_all ys ++ b) = f ∙ append_assoc (encoded y) (encoded_all ys) b in
    let same = prefix_free x y (encoded_all xs ++ a) (encoded_all ys ++ b) v w (sym split ∙ split') in
    let lines : line ≡ line' = one_line y line line' (subst (λ z. Claims z line) same.0 c) c' in
    let stand : u ≡ u' = one_granted s line' p p' u u' (subst (λ l. Claimed s l (Ok p) u) lines granted) granted' in
    let on : drop (at + length (encoded x)) docket ≡ encoded_all xs ++ a =
    sym (drop-drop (length (encoded x)) at docket) ∙ (ap (drop (length (encoded x))) split ∙ drop-append_seam (encoded x) (encoded_all xs ++ a)) in
    ends docket (at + length (encoded x)) u' xs ys a b r r' t t' on (on ∙ same.1) vs ws (subst (λ z. GrantedEach z xs t) stand more) more'
    (subst (λ n. Stops docket n a t r) (omega (arith, length-append (encoded x) (encoded_all xs))) i)
    (subst (λ n. Stops docket n b t' r') (omega (arith, length-append (encoded y) (encoded_all ys), ap (λ z. length (encoded z)) same.0)) j)

stopped :
    (s : Standing) (docket : List ℕ) (r : Result (Unit {0}) ReportFault) (t : Standing) → Examined s docket r t →
    (entries : List Entry) × (rest : List ℕ) × Begins s docket entries rest t × Stops docket (0 + length (encoded_all entries)) rest t r
stopped s docket (Ok done) t (entries, begins) = (entries, [], begins, refl)
stopped s docket (Err (Text fault)) t h = absurd h
stopped s docket (Err (Docket fault lines)) t (entries, rest, begins, some, e, next) =
    let here : length (encoded_all entries) ≡ 0 + length (encoded_all entries) = omega arith in
    (entries, rest, begins, (some, e, subst (λ n. NextFault docket n t fault) here next))

pub ends_once : EndsOnce
ends_once s docket r r' t t' h h' =
    let (xs, a, begins, stops) = stopped s docket r t h in
    let (ys, b, begins', stops') = stopped s docket r' t' h' in
    ends docket 0 s xs ys a b r r' t t' begins.bytes begins'.bytes begins.writable begins'.writable begins.granted begins'.granted stops stops'
