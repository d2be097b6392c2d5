-- From the clause that a line's rule yields to the answer of its claim.
use Rattle.std.proofs.Common.{ℕ, Ok, Err, Result, refl, subst, inl, inr}
use Rattle.laws.specs.Checks.{conditions, Hold, FailsWith}
use Rattle.laws.specs.Lines.{Line, axiom_line, resolution, reduction, symmetry}
use Rattle.sets.specs.Members.{members}
use Rattle.sets.specs.declared.clause_set.ClauseSet.{ClauseSet}
use Rattle.case.specs.Answers.{refusal_number}
use Rattle.case.specs.Claimed.{ClaimRight}
use Rattle.case.specs.Standing.{Standing}
use Rattle.case.specs.Steps.{rule_checks, Yields, KeepsLine}
use Rattle.case.specs.declared.refusal.Refusal.{Refusal}
use Rattle.case.proofs.Axioms.{axiom_holds, axiom_fails}
use Rattle.case.proofs.Claims.{fails_before, decides_kept, claim_right}
use Rattle.case.proofs.Resolutions.{resolution_holds, resolution_fails}

rule_holds : (s : Standing) (line : Line) → Hold (rule_checks s line) → Hold (conditions s.formula s.shelf.kept line)
rule_holds s (axiom_line j) h = axiom_holds s j h
rule_holds s (resolution p q v) h = resolution_holds s p q v h
rule_holds s (reduction p v) h = h
rule_holds s (symmetry p card) h = h

rule_fails : (s : Standing) (line : Line) (k : ℕ) → FailsWith k (rule_checks s line) → FailsWith k (conditions s.formula s.shelf.kept line)
rule_fails s (axiom_line j) k h = axiom_fails s j k h
rule_fails s (resolution p q v) k h = resolution_fails s p q v k h
rule_fails s (reduction p v) k h = h
rule_fails s (symmetry p card) k h = h

module _ (s : Standing) (line : Line) where
  -- the rule's clause is kept where there is room for it
  pub claim_kept :
      (clause : ClauseSet) → Yields s line (Ok clause) → (r : Result ℕ Refusal) (t : Standing) → KeepsLine s (members clause.literals.words) r t → ClaimRight s line r t
  claim_kept clause ((still, h), is) r t k =
      claim_right s line r t (decides_kept s line r t still (rule_holds s line h) (subst (λ C. KeepsLine s C r t) is k))

  -- the first check that fails is named
  pub claim_refused : (e : Refusal) → Yields s line (Err e) → ClaimRight s line (Err e) s
  claim_refused e (inl f) = claim_right s line (Err e) s (inl f, refl)
  claim_refused e (inr (still, f)) = claim_right s line (Err e) s (fails_before s line e still (rule_fails s line (refusal_number e) f))
