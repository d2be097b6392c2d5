-- What is proved of the format: decoding and encoding undo each other, and every place of every docket has one outcome.
use Rattle.std.specs.Prelude.{◌≡◌, ℕ, ◌<◌, ◌⊎◌, List, ◌++◌, length, take, drop}
use Rattle.std.specs.List.{AllByRecursion}
use Rattle.dockets.specs.Encoding.{Entry, encoded, Writable}
use Rattle.dockets.specs.Reading.{line_checks, Hold, FailsAt, entry_at, length_at}
use Rattle.dockets.specs.declared.fault.LineFault.{LineFault}

-- what is written of an entry, at any place of a docket, is read as that entry
pub record ReadsBack (before : List ℕ) (entry : Entry) (behind : List ℕ) : Type 0 where
  pub holds : Hold (line_checks (before ++ (encoded entry ++ behind)) (length before))
  pub entry_is : entry_at (before ++ (encoded entry ++ behind)) (length before) ≡ entry
  pub length_is : length_at (before ++ (encoded entry ++ behind)) (length before) ≡ length (encoded entry)

abbrev pub DecodingUndoesEncoding : Type 0
DecodingUndoesEncoding = (before : List ℕ) (entry : Entry) (behind : List ℕ) → Writable entry → ReadsBack before entry behind

-- a line that is read is that entry as it is written
pub record WrittenSo (docket : List ℕ) (at : ℕ) : Type 0 where
  pub writable : Writable (entry_at docket at)
  pub bytes : take (length_at docket at) (drop at docket) ≡ encoded (entry_at docket at)

abbrev pub EncodingUndoesDecoding : Type 0
EncodingUndoesDecoding = (docket : List ℕ) → AllByRecursion (λ b. b < 256) docket → (at : ℕ) → Hold (line_checks docket at) → WrittenSo docket at

-- at each place of a docket there is a line, or there is one first fault
pub record OneOutcome (docket : List ℕ) (at : ℕ) : Type 0 where
  pub some : Hold (line_checks docket at) ⊎ ((fault : LineFault) × FailsAt fault (line_checks docket at))
  pub never_both : (fault : LineFault) → Hold (line_checks docket at) → FailsAt fault (line_checks docket at) → ⊥
  pub one_fault : (fault other : LineFault) → FailsAt fault (line_checks docket at) → FailsAt other (line_checks docket at) → fault ≡ other

abbrev pub PlacesHaveOneOutcome : Type 0
PlacesHaveOneOutcome = (docket : List ℕ) (at : ℕ) → OneOutcome docket at
