-- Lines granted one after the other: where they lead, and how examining ends from there.
use Rattle.std.proofs.Common.{◌≡◌, ℕ, ◌+◌, ◌<◌, ◌≤◌, true, false, List, [], ◌∷◌, ◌++◌, length, get_or, take, drop, Ok, Err, Result, MatchResult, sym, refl, ap, ◌∙◌, subst, append_assoc, append-nil, arith, length-drop, take-append-drop, length-take, take_all}
use Rattle.std.specs.List.{AllByRecursion}
use Rattle.std.proofs.ByRecursion.{All-append, All-from_get_or}
use Rattle.calculus.specs.Meaning.{Formed}
use Rattle.calculus.specs.Truth.{truth}
use Rattle.laws.specs.Lines.{Line}
use Rattle.laws.specs.Runs.{Call, claims}
use Rattle.case.specs.Claimed.{Claimed, After}
use Rattle.case.specs.Standing.{Standing}
use Rattle.case.proofs.Claims.{claimed_goes_on}
use Rattle.case.proofs.Verdicts.{refuted_false}
use Rattle.dockets.specs.Encoding.{Entry, Writable, encoded_all}
use Rattle.dockets.specs.Reading.{entry_at, length_at}
use Rattle.dockets.proofs.Joining.{front_more, line_ends, line_long, some_bytes}
use Rattle.dockets.proofs.WrittenSo.{encoding}
use Rattle.faults.specs.declared.docket_fault.DocketFault.{DocketFault}
use Rattle.faults.specs.declared.placed.Placed.{Placed}
use Rattle.faults.specs.declared.report_fault.ReportFault.{ReportFault}
use Rattle.faults.specs.declared.report_fault.ReportFault.TheVariants.{Text, Docket}
use Rattle.examining.specs.Entries.{Claims, GrantedEach}
use Rattle.examining.specs.Examined.{NextFault, ExaminedRight}
use Rattle.examining.specs.Steps.{LineGranted, NextReported, Stepped}

-- the bytes before an offset are lines, all granted, which lead from s to t
pub record Came (s : Standing) (docket : List ℕ) (at : ℕ) (t : Standing) : Type 0 where
  pub within : at ≤ length docket
  pub entries : List Entry
  pub writable : AllByRecursion Writable entries
  pub front : take at docket ≡ encoded_all entries
  pub granted : GrantedEach s entries t

pub came_none : (s : Standing) (docket : List ℕ) → Came s docket 0 s
came_none s docket = record { within = omega arith; entries = []; writable = tt; front = refl; granted = refl }

-- one line more is granted
granted_more :
    (s : Standing) (entries : List Entry) (t : Standing) (entry : Entry) (line : Line) (p : ℕ) (u : Standing) → GrantedEach s entries t → Claims entry line →
    Claimed t line (Ok p) u → GrantedEach s (entries ++ (entry ∷ [])) u
granted_more s [] t entry line p u e c h = (line, p, u, c, subst (λ x. Claimed x line (Ok p) u) e h, refl)
granted_more s (first ∷ entries) t entry line p u (l, q, v, d, i, more) c h = (l, q, v, d, i, granted_more v entries t entry line p u more c h)

pub came_more :
    (s : Standing) (docket : List ℕ) (at : ℕ) (t : Standing) (next : ℕ) (u : Standing) → Came s docket at t → ((k : ℕ) → get_or docket k 0 < 256) →
    LineGranted t docket at next u → Came s docket next u
came_more s docket at t next u came below (holds, e, (line, p, c, h)) =
    let bytes : AllByRecursion (λ b. b < 256) docket = All-from_get_or (λ b. b < 256) docket 0 (λ k lt. below k) in
    let ends : next ≡ at + length_at docket at = omega (arith, e, line_long docket bytes at holds) in record {
      within = omega (arith, line_ends docket bytes at holds);
      entries = came.entries ++ (entry_at docket at ∷ []);
      writable = All-append Writable came.entries (entry_at docket at ∷ []) came.writable ((encoding docket bytes at holds).writable, tt);
      front = ap (λ n. take n docket) ends ∙ front_more docket bytes at holds came.entries came.front;
      granted = granted_more s came.entries t (entry_at docket at) line p u came.granted c h;
    }

-- it ends behind its map byte
pub goes_forward : (t : Standing) (docket : List ℕ) (at next : ℕ) (u : Standing) → LineGranted t docket at next u → at < next
goes_forward t docket at next u (holds, e, granted) = omega (arith, e, some_bytes (entry_at docket at))

-- one step, with the lines kept put beside its fault
abbrev Beside : Result ℕ DocketFault → ℕ → Result ℕ (Placed DocketFault) → Type 0
Beside r kept w = MatchResult r (λ x. w ≡ Ok x) (λ f. w ≡ Err (record { fault = f; place = kept }))

pub stepped_on : (t : Standing) (docket : List ℕ) (at : ℕ) (r : Result ℕ DocketFault) (u : Standing) (kept : ℕ) (w : Result ℕ (Placed DocketFault)) (next : ℕ) → Stepped t docket at r u → Beside r kept w
    → w ≡ Ok next → LineGranted t docket at next u
stepped_on t docket at (Ok x) u kept w next h b e = let same : x ≡ next = cc in subst (λ n. LineGranted t docket at n u) same h
stepped_on t docket at (Err f) u kept w next h b e = cc

pub stepped_fault : (t : Standing) (docket : List ℕ) (at : ℕ) (r : Result ℕ DocketFault) (u : Standing) (kept : ℕ) (w : Result ℕ (Placed DocketFault)) (p : Placed DocketFault) → Stepped t docket at r u
    → Beside r kept w → w ≡ Err p → kept ≡ length t.shelf.kept → NextReported docket at t (Docket p.fault p.place) × (u ≡ t)
stepped_fault t docket at (Ok x) u kept w p h b e k = cc
stepped_fault t docket at (Err f) u kept w p (next, same) b e k =
    let is : ◌≡◌ {A = Placed DocketFault} (record { fault = f; place = kept }) p = cc in
    (subst (λ q. NextReported docket at t (Docket q.fault q.place)) is (next, k), same)

-- calls go on with the claims granted
granted_on : (s : Standing) (entries : List Entry) (t : Standing) → GrantedEach s entries t → (calls : List Call) → After calls s → (more : List Call) × After (calls ++ more) t
granted_on s [] t e calls h = ([], subst (λ cs. After cs t) (sym (append-nil calls)) (subst (After calls) (sym e) h))
granted_on s (entry ∷ entries) t (line, p, u, c, claimed, rest) calls h =
    let (more, on) = granted_on u entries t rest (calls ++ (claims line ∷ [])) (claimed_goes_on s line (Ok p) u claimed calls h).0 in
    (claims line ∷ more, subst (λ cs. After cs t) (append_assoc calls (claims line ∷ []) more) on)

module _ (s : Standing) (docket : List ℕ) (at : ℕ) (t : Standing) (came : Came s docket at t) (formed : Formed t.formula) where
  false_here : (calls : List Call) → After calls s → t.refuted ≡ true → truth t.formula ≡ false
  false_here calls h = let (more, on) = granted_on s came.entries t came.granted calls h in refuted_false (calls ++ more) t formed on

  -- the docket is at its end
  pub right_whole : length docket ≤ at → ExaminedRight s docket (Ok tt) t
  right_whole past = record {
    examined = (came.entries, record { writable = came.writable; bytes = whole; granted = came.granted });
    goes_on = granted_on s came.entries t came.granted;
    false_then = false_here;
  }
    where
      whole : docket ≡ encoded_all came.entries ++ []
      whole = sym (take_all at docket past) ∙ (came.front ∙ sym (append-nil (encoded_all came.entries)))

  -- the next line has a fault
  faulty : (fault : ReportFault) → at < length docket → NextReported docket at t fault → ExaminedRight s docket (Err fault) t
  faulty (Text fault) before next = absurd next
  faulty (Docket fault lines) before (next, e) = record {
    examined = (
      came.entries,
      drop at docket,
      record { writable = came.writable; bytes = parts; granted = came.granted },
      omega (arith, length-drop at docket),
      e,
      subst (λ n. NextFault docket n t fault) long next,
    );
    goes_on = granted_on s came.entries t came.granted;
    false_then = false_here;
  }
    where
      parts : docket ≡ encoded_all came.entries ++ drop at docket
      parts = sym (take-append-drop at docket) ∙ ap (λ l. l ++ drop at docket) came.front

      long : at ≡ length (encoded_all came.entries)
      long = omega (arith, length-take at docket, came.within) ∙ ap length came.front

  pub right_fault :
      (r : Result (Unit {0}) ReportFault) (fault : ReportFault) (u : Standing) → (told : ReportFault) × (r ≡ Err told) × (told ≡ fault) → at < length docket →
      NextReported docket at t fault × (u ≡ t) → ExaminedRight s docket r u
  right_fault r fault u (told, e, is) before (next, same) =
      subst (λ v. ExaminedRight s docket r v) (sym same) (subst (λ x. ExaminedRight s docket x t) (sym (e ∙ ap Err is)) (faulty fault before next))
