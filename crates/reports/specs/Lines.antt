-- The line of each report, byte by byte.
use Rattle.std.specs.Prelude.{ℕ, List, [], ◌∷◌, ◌++◌, codes, decimal}
use Rattle.faults.specs.Faults.{Layer, of_text, of_docket, of_claim, fault_number, fault_layer, fault_byte, fault_lines}
use Rattle.reports.specs.declared.report.Report.{Report}
use Rattle.reports.specs.declared.report.Report.TheVariants.{Refuted, Open, Refused, TooLong}

-- the word for a layer
abbrev pub layer_word : Layer → List ℕ
layer_word of_text = codes "text"
layer_word of_docket = codes "docket"
layer_word of_claim = codes "claim"

-- refuted line L lines K
unfoldable pub refuted_line : ℕ → ℕ → List ℕ
refuted_line line lines = codes "refuted line " ++ (decimal line ++ (codes " lines " ++ (decimal lines ++ (10 ∷ []))))

-- open lines K
unfoldable pub open_line : ℕ → List ℕ
open_line lines = codes "open lines " ++ (decimal lines ++ (10 ∷ []))

-- refused N layer W byte B line K
unfoldable pub refused_line : ℕ → List ℕ → ℕ → ℕ → List ℕ
refused_line number word byte lines =
    codes "refused " ++
    (decimal number ++ (codes " layer " ++ (word ++ (codes " byte " ++ (decimal byte ++ (codes " line " ++ (decimal lines ++ (10 ∷ []))))))))

-- the line of a report
abbrev pub report_line : Report → List ℕ
report_line (Refuted line lines) = refuted_line line lines
report_line (Open lines) = open_line lines
report_line (Refused f) = refused_line (fault_number f) (layer_word (fault_layer f)) (fault_byte f) (fault_lines f)
report_line TooLong = codes "file too long\n"
