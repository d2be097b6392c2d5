-- The conditions of a clause of the formula, said of the clause or of its literals in order.
use Rattle.std.proofs.Common.{ℕ, List, inl, inr}
use Rattle.calculus.specs.Literals.{neg, Tautological}
use Rattle.calculus.specs.Meaning.{clause_of}
use Rattle.calculus.specs.Sets.{Same}
use Rattle.laws.specs.Checks.{conditions, Hold, FailsWith}
use Rattle.laws.specs.Claims.{sorted}
use Rattle.laws.specs.Lines.{axiom_line}
use Rattle.laws.proofs.Rules.{sorted_same}
use Rattle.case.specs.Standing.{Standing}
use Rattle.case.specs.Steps.{rule_checks}

-- of two lists with the same literals both are tautological, or neither
tautological_same : (C D : List ℕ) → Same C D → Tautological C → Tautological D
tautological_same C D h t = (t.0, (h t.0).0 t.1, (h (neg t.0)).0 t.2)

module _ (s : Standing) (j : ℕ) where
  in_order : Tautological (clause_of s.formula j) → Tautological (sorted (clause_of s.formula j))
  in_order = tautological_same (clause_of s.formula j) (sorted (clause_of s.formula j))
      (λ l. ((sorted_same (clause_of s.formula j) l).1, (sorted_same (clause_of s.formula j) l).0))

  as_listed : Tautological (sorted (clause_of s.formula j)) → Tautological (clause_of s.formula j)
  as_listed = tautological_same (sorted (clause_of s.formula j)) (clause_of s.formula j) (sorted_same (clause_of s.formula j))

  pub axiom_holds : Hold (rule_checks s (axiom_line j)) → Hold (conditions s.formula s.shelf.kept (axiom_line j))
  axiom_holds (within, (free, u)) = (within, (λ t. free (in_order t), tt))

  pub axiom_fails : (k : ℕ) → FailsWith k (rule_checks s (axiom_line j)) → FailsWith k (conditions s.formula s.shelf.kept (axiom_line j))
  axiom_fails k (inl f) = inl f
  axiom_fails k (inr (within, inl (e, f))) = inr (within, inl (e, λ free. f (λ t. free (as_listed t))))
  axiom_fails k (inr (within, inr (free, f))) = absurd f
