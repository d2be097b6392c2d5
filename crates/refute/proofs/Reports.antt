-- The line that reports the fault of a text is at most 64 bytes long.
use Rattle.std.proofs.Common.{◌≡◌, ◌^◌, ◌<◌, true, length, replicate, is_ok, Ok, Err, refl, arith}
use Rattle.std.proofs.lemmas.Bool.{cond_both, leb-false}
use Rattle.grammar.specs.declared.rule.TextFault.{TextFault}
use Rattle.writer.specs.declared.fault.WriteFault.TheVariants.{Cramped}
use Rattle.writer.specs.Into.{fits, answer}
use Rattle.writer.specs.Written.{refusal_line}
use Rattle.writer.proofs.Lengths.{refusal_short}

-- so 64 bytes are enough to write it
pub enough : (f : TextFault) → f.byte < 2 ^ 64 → is_ok (answer (refusal_line f) (replicate 64 0)) ≡ true
enough f b =
    cond_both (fits (refusal_line f) (replicate 64 0)) (Ok (length (refusal_line f))) (Err Cramped) (λ r. is_ok r ≡ true) (λ _. refl)
    (λ e. absurd (omega (arith, refusal_short f b, leb-false (length (refusal_line f)) 64 e)))
