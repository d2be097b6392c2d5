-- The conditions of a resolvent, said of the clause that is computed or of every clause that the rule gives.
use Rattle.std.proofs.Common.{ℕ, subst, inl, inr}
use Rattle.calculus.specs.Literals.{Tautological}
use Rattle.laws.specs.Checks.{conditions, Hold, FailsWith}
use Rattle.laws.specs.Lines.{resolution}
use Rattle.laws.proofs.Rules.{gives_given, gives_one}
use Rattle.case.specs.Claimed.{clause_by}
use Rattle.case.specs.Standing.{Standing}
use Rattle.case.specs.Steps.{rule_checks}

module _ (s : Standing) (p q v : ℕ) where
  pub resolution_holds : Hold (rule_checks s (resolution p q v)) → Hold (conditions s.formula s.shelf.kept (resolution p q v))
  resolution_holds (first, (second, (known, (fits, (free, u))))) =
      (first, (second, (known, (fits, (λ C g t. free (subst Tautological (gives_one s.formula s.shelf.kept (resolution p q v) C g) t), tt)))))

  pub resolution_fails : (k : ℕ) → FailsWith k (rule_checks s (resolution p q v)) → FailsWith k (conditions s.formula s.shelf.kept (resolution p q v))
  resolution_fails k (inl f) = inl f
  resolution_fails k (inr (first, inl f)) = inr (first, inl f)
  resolution_fails k (inr (first, inr (second, inl f))) = inr (first, inr (second, inl f))
  resolution_fails k (inr (first, inr (second, inr (known, inl f)))) = inr (first, inr (second, inr (known, inl f)))
  resolution_fails k (inr (first, inr (second, inr (known, inr (fits, inl (e, f)))))) =
      inr (first, inr (second, inr (known, inr (fits, inl (e, λ free. f (free (clause_by s (resolution p q v)) (gives_given s.formula s.shelf.kept (resolution p q v))))))))
  resolution_fails k (inr (first, inr (second, inr (known, inr (fits, inr (free, f)))))) = absurd f
