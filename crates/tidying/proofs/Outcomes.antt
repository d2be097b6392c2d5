-- From what reading and writing ensure to what is said of a text.
use Rattle.std.proofs.Common.{◌≡◌, ℕ, ◌^◌, ◌<◌, List, [], replicate, Result, ap, ◌∙◌, subst, sym, arith}
use native.Mathlib.Nat.{sub-zero}
use Rattle.calculus.specs.Meaning.{Meaning}
use Rattle.grammar.specs.declared.rule.TextFault.{TextFault}
use Rattle.grammar.specs.Lawful.{Sizes}
use Rattle.grammar.specs.Outcome.{formula, refused}
use Rattle.reading.specs.Laid.{padded}
use Rattle.text.specs.Cells.{meant}
use Rattle.text.specs.Filled.{Holds, Refused}
use Rattle.text.specs.declared.outline.Outline.{Outline}
use Rattle.tidying.specs.Tidied.{Said, Room}
use Rattle.writer.specs.declared.fault.WriteFault.{WriteFault}
use Rattle.writer.specs.Back.{FitsLimits}
use Rattle.writer.specs.Into.{answer, filled}
use Rattle.writer.specs.Short.{longest}
use Rattle.writer.specs.Written.{written, refusal_line}
use Rattle.writer.proofs.Buffers.{has_room}
use Rattle.writer.proofs.Lengths.{refusal_short, reads_within}

-- cells that hold nothing but zeros
zeros : (k : ℕ) → replicate k 0 ≡ padded k []
zeros k = rw (sub-zero k)

-- a formula that was read is within the limits
pub read_within : {S : Sizes} {text literals ends : List ℕ} {o : Outline} {m : Meaning} → Holds S text o literals ends → m ≡ meant o literals ends →
    FitsLimits m
read_within h e = subst FitsLimits (sym (e ∙ h.held)) (reads_within h.reads)

module _ (change : Meaning → Meaning) (out : List ℕ) {S : Sizes} {text : List ℕ} {r : Result ℕ WriteFault} {out' literals ends : List ℕ} where
  -- the formula of a text that was read is written, changed
  pub formula_is_said : {o : Outline} {m : Meaning} → Holds S text o literals ends → m ≡ meant o literals ends → r ≡ answer (written (change m)) out →
      out' ≡ filled (written (change m)) out → Said change S text r out out' literals ends
  formula_is_said h e a f = record {
    outcome = formula h.formula;
    comes = h.reads;
    answers = a ∙ ap (λ m. answer (written (change m)) out) (e ∙ h.held);
    holds = f ∙ ap (λ m. filled (written (change m)) out) (e ∙ h.held);
    codes = h.codes;
    counts = h.counts;
  }

  -- the fault of a text is reported
  pub refusal_is_said : {f : TextFault} → Refused S text f literals ends → r ≡ answer (refusal_line f) out → out' ≡ filled (refusal_line f) out →
      Said change S text r out out' literals ends
  refusal_is_said {f} h a w = record {
    outcome = refused f.rule f.byte;
    comes = h.faults;
    answers = a;
    holds = w;
    codes = h.no_codes ∙ zeros S.cells;
    counts = h.no_counts ∙ zeros S.ends;
  }

  -- and the buffer has room, where it has room for every formula within the limits
  pub said_formula : {o : Outline} {m : Meaning} → (FitsLimits m → Room out r) →
      Holds S text o literals ends → m ≡ meant o literals ends → r ≡ answer (written (change m)) out →
      out' ≡ filled (written (change m)) out → Said change S text r out out' literals ends × Room out r
  said_formula room h e a f = (formula_is_said h e a f, room (read_within h e))

  -- so has it for the line of a fault
  pub said_refusal : {f : TextFault} → f.byte < 2 ^ 64 → Refused S text f literals ends → r ≡ answer (refusal_line f) out → out' ≡ filled (refusal_line f) out →
      Said change S text r out out' literals ends × Room out r
  said_refusal {f} b h a w = (refusal_is_said h a w, has_room longest (refusal_line f) out (omega (arith, refusal_short f b)) a)
