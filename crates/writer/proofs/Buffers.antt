-- What a buffer holds once a text was put at its start.
use Rattle.std.proofs.Common.{◌≡◌, ℕ, ◌+◌, ◌≤◌, List, [], ◌∷◌, ◌++◌, length, drop, Ok, Err, Result, sym, refl, ap, ◌∙◌, subst, append_assoc, arith}
use Rattle.std.proofs.lemmas.List.{set_at, length_push}
use Rattle.std.proofs.lemmas.Bool.{cond_both, cond-true, leb-true, leb-false, le-leb}
use Rattle.writer.specs.declared.fault.WriteFault.{WriteFault}
use Rattle.writer.specs.declared.fault.WriteFault.TheVariants.{Cramped}
use Rattle.writer.specs.declared.pen.Pen.{Pen}
use Rattle.writer.specs.Into.{fits, laid, answer, filled, RoomFor}
use Rattle.writer.specs.Pen.{stamp, Put}

stamp_behind : (at : ℕ) (front bs rest : List ℕ) → length front ≡ at → length bs ≤ length rest →
    stamp at bs (front ++ rest) ≡ front ++ (bs ++ drop (length bs) rest)
stamp_behind at front [] rest e h = refl
stamp_behind at front (b ∷ bs) [] e h = absurd (omega arith)
stamp_behind at front (b ∷ bs) (r ∷ rest) e h =
    ap (stamp (at + 1) bs) (set_at front r rest b at e ∙ sym (append_assoc front (b ∷ []) rest))
    ∙ (stamp_behind (at + 1) (front ++ (b ∷ [])) bs rest (length_push front b ∙ ap (λ k. k + 1) e) (omega arith)
    ∙ append_assoc front (b ∷ []) (bs ++ drop (length bs) rest))

-- a text that fits
pub stamp_fits : (bs out : List ℕ) → length bs ≤ length out → stamp 0 bs out ≡ bs ++ drop (length bs) out
stamp_fits bs out h = stamp_behind 0 [] bs out refl h

-- a pen that began at the start of a buffer which is long enough leaves the text there
pub filled_by : {bs out left : List ℕ} {p q : Pen} → left ≡ q.out.now → Put bs p q → p.out.now ≡ out → p.at ≡ 0 → length bs ≤ length out →
    left ≡ filled bs out
filled_by {bs} {out} e f buffer start h =
    e ∙ (f.held ∙ (rw (start, buffer) (stamp_fits bs out h) ∙ sym (cond-true (fits bs out) (laid bs out) out (le-leb (length bs) (length out) h))))

-- a text of at most so many bytes fits a buffer of so many, and what fits lies within
pub has_room : {r : Result ℕ WriteFault} (most : ℕ) (bytes out : List ℕ) → length bytes ≤ most → r ≡ answer bytes out → RoomFor most out r
has_room most bytes out short a =
    subst (RoomFor most out) (sym a)
    (cond_both (fits bytes out) (Ok (length bytes)) (Err Cramped) (RoomFor most out) (λ e. (λ _. refl, leb-true (length bytes) (length out) e))
    (λ e. (λ wide. absurd (omega (arith, leb-false (length bytes) (length out) e)), tt)))
