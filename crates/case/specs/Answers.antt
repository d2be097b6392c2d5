-- The numbers of refusals and verdicts, and what calls and replies are in the calculus.
use Rattle.std.specs.Prelude.{ℕ, Bool, true, false, Ok, Err, Result}
use Rattle.laws.specs.Lines.{Line, axiom_line, resolution, reduction, symmetry}
use Rattle.laws.specs.Runs as runs
use Rattle.cards.specs.Meant.{meant}
use Rattle.case.specs.declared.refusal.Refusal.{Refusal}
use Rattle.case.specs.declared.refusal.Refusal.TheVariants.{Closed, Absent, Tautology, Pivot, Reduction, Level, Asymmetry, Full}
use Rattle.case.specs.declared.verdict.Verdict.{Verdict}
use Rattle.case.specs.declared.verdict.Verdict.TheVariants.{Refuted, Open}
use Rattle.case.specs.declared.call.Call.{Call}
use Rattle.case.specs.declared.call.Call.TheVariants.{Claim as Claims, Verdict as Asks}
use Rattle.case.specs.declared.call.Reply.{Reply}
use Rattle.case.specs.declared.call.Reply.TheVariants.{Claim as Answers, Verdict as Says}
use Rattle.case.specs.declared.claim.Claim.{Claim}
use Rattle.case.specs.declared.claim.Claim.TheVariants.{Axiom, Resolution, Reduction as Reducing, Symmetry}

-- the number under which a refused claim is reported
abbrev pub refusal_number : Refusal → ℕ
refusal_number Closed = 31
refusal_number Absent = 32
refusal_number Tautology = 33
refusal_number Pivot = 34
refusal_number Reduction = 35
refusal_number Level = 36
refusal_number Asymmetry = 37
refusal_number Full = 38

-- whether a verdict says that the formula is refuted
abbrev pub is_refuted : Verdict → Bool
is_refuted (Refuted k) = true
is_refuted (Open k) = false

-- the number of a verdict
abbrev pub verdict_number : Verdict → ℕ
verdict_number (Refuted k) = k
verdict_number (Open k) = k

-- the line that a claim is for
abbrev pub line_of : Claim → Line
line_of (Axiom j) = axiom_line j
line_of (Resolution p q v) = resolution p q v
line_of (Reducing p v) = reduction p v
line_of (Symmetry p card) = symmetry p (meant card)

-- the call of the calculus that a call is
abbrev pub meant_call : Call → runs.Call
meant_call (Claims claim) = runs.claims (line_of claim)
meant_call Asks = runs.asks

-- the reply that a claim's answer is
abbrev pub claim_reply : Result ℕ Refusal → runs.Reply
claim_reply (Ok p) = runs.granted p
claim_reply (Err e) = runs.refusal (refusal_number e)

-- the reply of the calculus that a reply is
abbrev pub meant_reply : Reply → runs.Reply
meant_reply (Answers r) = claim_reply r
meant_reply (Says v) = runs.verdict (is_refuted v) (verdict_number v)
