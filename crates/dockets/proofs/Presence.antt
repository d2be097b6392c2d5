-- The bytes of a line that are there: those up to its card, and those of the pairs behind a count.
use Rattle.std.proofs.Common.{◌≡◌, ℕ, ◌+◌, ◌*◌, ◌/◌, ◌%◌, ◌<◌, ◌≤◌, List, length, take, drop, Err, Result, sym, refl, ap, ◌∙◌, subst, inl, inr, ⊎_elim, arith, MatchResult}
use Rattle.std.proofs.lemmas.Bool.{cases_eq}
use Rattle.dockets.specs.Fields.{whole_fields, CutOff}
use Rattle.dockets.specs.Heads.{HeadTaken, head_field_checks, line_kind}
use Rattle.dockets.specs.Parts.{part_checks, part_field_checks, presence_check}
use Rattle.dockets.specs.Reading.{FailsAt, Hold, Whole, field_at, length_at, length_of}
use Rattle.dockets.specs.declared.fault.LineFault.{LineFault}
use Rattle.dockets.specs.declared.line.Line.{Line}
use Rattle.dockets.specs.declared.line.Line.TheVariants.{Axiom, Resolution, Reduction, Symmetry}
use Rattle.dockets.specs.declared.parts.Part.{Part}
use Rattle.dockets.proofs.Carding.{Counted, whole_is}
use Rattle.dockets.proofs.Checks.{each_holds, one_fails}

pub head_at : (docket first : List ℕ) (at from : ℕ) (line : Line) (next : ℕ) → first ≡ docket → from ≡ at → HeadTaken first from line next → HeadTaken docket at line next
head_at docket first at from line next e i h = subst (λ a. HeadTaken docket a line next) i (subst (λ d. HeadTaken d from line next) e h)

-- the line is there whole, and ends before the next
pub record There (docket : List ℕ) (at next : ℕ) : Type 0 where
  pub holds : Hold (part_checks docket at)
  pub ends : next ≡ at + length_at docket at
  pub within : next ≤ length docket

module _ (docket : List ℕ) (at : ℕ) (line : Line) (next : ℕ) (h : HeadTaken docket at line next) where
  fields : Hold (head_field_checks docket at (line_kind line))
  fields = subst (λ k. Hold (head_field_checks docket at k)) h.kind_is h.holds.1.1

  part_there : (end : ℕ) → Hold (part_field_checks docket at (line_kind line)) → end ≡ at + length_of docket at (line_kind line) → end ≤ length docket → There docket at end
  part_there end f e w = record {
    holds = (h.holds.0, (h.holds.1.0, subst (λ k. Hold (part_field_checks docket at k)) (sym h.kind_is) f));
    ends = e ∙ ap (λ k. at + length_of docket at k) (sym h.kind_is);
    within = w;
  }

  part_fails : (e : LineFault) → FailsAt e (part_field_checks docket at (line_kind line)) → FailsAt e (part_checks docket at)
  part_fails e f = inr (h.holds.0, inr (h.holds.1.0, subst (λ k. FailsAt e (part_field_checks docket at k)) (sym h.kind_is) f))

-- a line with no card
pub without_card : (docket : List ℕ) (at : ℕ) (line : Line) (next : ℕ) → HeadTaken docket at line next → ((p place : ℕ) → line ≡ Symmetry p place → ⊥) → There docket at next
without_card docket at (Axiom j) next h other = let f = fields docket at (Axiom j) next h in part_there docket at (Axiom j) next h next f h.ends (omega (arith, h.ends, f.0))
without_card docket at (Resolution p q v) next h other =
    let f = fields docket at (Resolution p q v) next h in part_there docket at (Resolution p q v) next h next f h.ends (omega (arith, h.ends, f.1.1.0))
without_card docket at (Reduction p v) next h other = let f = fields docket at (Reduction p v) next h in part_there docket at (Reduction p v) next h next f h.ends (omega (arith, h.ends, f.1.0))
without_card docket at (Symmetry p place) next h other = absurd (other p place refl)

-- a line with a card, whose count is read
module _ (docket : List ℕ) (at p place : ℕ) (next : ℕ) (h : HeadTaken docket at (Symmetry p place) next) (count : ℕ) (of : List ℕ) (from : ℕ) (c : Counted docket (at + 3) count of from) where
  abbrev n : ℕ
  n = field_at docket (at + 3)

  abbrev whole : ℕ
  whole = whole_fields docket (at + 3 + 2)

  first : Whole docket (at + 1)
  first = (fields docket at (Symmetry p place) next h).0

  -- the pairs before pair k are whole
  hold_before : (k : ℕ) → 2 * k ≤ whole → (j : ℕ) → j < k → Hold (presence_check docket (at + 3) j)
  hold_before k l j m = (omega (arith, c.there), (omega (arith, c.there), tt))

  pub cut : (e : LineFault) → CutOff of from (2 * count) e → FailsAt e (part_checks docket at)
  cut e (l, (rule, byte)) =
      let short : whole < 2 * count = omega (arith, l, whole_is _ _ _ _ _ c) in
      let here : e.byte ≡ at + 3 + 2 + 2 * whole = omega (arith, byte, whole_is _ _ _ _ _ c, c.onto) in
      part_fails docket at (Symmetry p place) next h e (inr (
        first,
        inr (
          c.there,
          inr (
            omega (arith, c.few, c.value),
            (one_fails (presence_check docket (at + 3)) e (whole / 2) (hold_before (whole / 2) (omega arith))
                (⊎_elim (λ odd. inr (omega (arith, c.there), inl (rule, omega arith, λ w. omega (arith, c.there))))
                (λ even. inl (rule, omega arith, λ w. omega (arith, c.there))) (cases_eq (whole % 2) 1))
                n (omega (arith, c.value))),
          ),
        ),
      ))

  pub with_card : (end : ℕ) → 2 * count ≤ whole_fields of from → end ≡ from + 2 * (2 * count) → There docket at end
  with_card end l e =
      let all : 2 * count ≤ whole = omega (arith, l, whole_is _ _ _ _ _ c) in
      part_there docket at (Symmetry p place) next h end (
        first,
        (
          c.there,
          (
            omega (arith, c.few, c.value),
            each_holds (presence_check docket (at + 3)) n (hold_before n (omega (arith, c.value))),
          ),
        ),
      )
      (omega (arith, e, c.onto, c.value)) (omega (arith, e, c.onto, c.there))

-- what is answered of the part at an offset, where it is a fault
abbrev PartRead : List ℕ → ℕ → Result Part LineFault → Type 0
PartRead docket at r =
    MatchResult r (λ part. Hold (part_checks docket at) × (part.place ≡ at) × (part.bytes.now ≡ take (length_at docket at) (drop at docket))) (λ e. FailsAt e (part_checks docket at))

pub part_refused : (docket : List ℕ) (at : ℕ) (r : Result Part LineFault) (e f : LineFault) → r ≡ Err f → f ≡ e → FailsAt e (part_checks docket at) → PartRead docket at r
part_refused docket at r e f i j fails = subst (PartRead docket at) (sym (i ∙ ap Err j)) fails
