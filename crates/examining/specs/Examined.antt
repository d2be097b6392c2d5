-- What examining a docket on a case comes to.
use Rattle.std.specs.Prelude.{◌≡◌, ℕ, ◌<◌, true, false, List, [], ◌++◌, length, Ok, Err, Result}
use Rattle.std.specs.List.{AllByRecursion}
use Rattle.calculus.specs.Truth.{truth}
use Rattle.laws.specs.Lines.{Line}
use Rattle.laws.specs.Runs.{Call}
use Rattle.case.specs.Claimed.{Claimed, After}
use Rattle.case.specs.Standing.{Standing}
use Rattle.dockets.specs.Encoding.{Entry, Writable, encoded_all}
use Rattle.dockets.specs.Reading.{line_checks, Hold, FailsAt, entry_at}
use Rattle.faults.specs.declared.docket_fault.DocketFault.{DocketFault}
use Rattle.faults.specs.declared.docket_fault.DocketFault.TheVariants.{Line as InLine, Claim as InClaim}
use Rattle.faults.specs.declared.report_fault.ReportFault.{ReportFault}
use Rattle.faults.specs.declared.report_fault.ReportFault.TheVariants.{Text, Docket}
use Rattle.examining.specs.Entries.{Claims, GrantedEach}

-- the docket begins with these entries, whose claims are all granted and lead from s to t; the rest is behind them
pub record Begins (s : Standing) (docket : List ℕ) (entries : List Entry) (rest : List ℕ) (t : Standing) : Type 0 where
  pub writable : AllByRecursion Writable entries
  pub bytes : docket ≡ encoded_all entries ++ rest
  pub granted : GrantedEach s entries t

-- at an offset, with the case at t, this is the next fault: the bytes are no line; or they are, and its claim is refused
abbrev pub NextFault : List ℕ → ℕ → Standing → DocketFault → Type 0
NextFault docket at t (InLine fault) = FailsAt fault (line_checks docket at)
NextFault docket at t (InClaim refusal byte) =
    Hold (line_checks docket at) × (byte ≡ at) × ((line : Line) × Claims (entry_at docket at) line × Claimed t line (Err refusal) t)

-- the docket is granted whole; or it begins with a run of lines that are granted, there are bytes behind them, and the next line has this fault
abbrev pub Examined : Standing → List ℕ → Result (Unit {0}) ReportFault → Standing → Type 0
Examined s docket (Ok done) t = (entries : List Entry) × Begins s docket entries [] t
Examined s docket (Err (Text fault)) t = ⊥
Examined s docket (Err (Docket fault lines)) t =
    (entries : List Entry) × (rest : List ℕ) × Begins s docket entries rest t × (0 < length rest) × (lines ≡ length t.shelf.kept) ×
    NextFault docket (length (encoded_all entries)) t fault

-- what examining promises: what it comes to; and, wherever calls from the opening lead to s, more calls lead to t, where refuted means false
pub record ExaminedRight (s : Standing) (docket : List ℕ) (r : Result (Unit {0}) ReportFault) (t : Standing) : Type 0 where
  pub examined : Examined s docket r t
  pub goes_on : (calls : List Call) → After calls s → (more : List Call) × After (calls ++ more) t
  pub false_then : (calls : List Call) → After calls s → t.refuted ≡ true → truth t.formula ≡ false

-- examining comes to one end only
abbrev pub EndsOnce : Type 0
EndsOnce =
    (s : Standing) (docket : List ℕ) (r r' : Result (Unit {0}) ReportFault) (t t' : Standing) → Examined s docket r t → Examined s docket r' t' → (r ≡ r') × (t ≡ t')
