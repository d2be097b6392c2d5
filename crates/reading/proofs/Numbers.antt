-- Words behind the blocks: numbers that may stand there.
use Rattle.std.proofs.Common.{◌≡◌, ◌<◌, ◌≤◌, Bool, true, false, cond, length, None, arith}
use Rattle.std.proofs.lemmas.Bool.Decides.{nat_tests}
use Rattle.grammar.specs.Draft.{Draft}
use Rattle.grammar.specs.Lawful.{Sizes}
use Rattle.grammar.specs.Next.{Next, sort, size}
use Rattle.grammar.specs.Fault.{fault}
use Rattle.reading.specs.declared.state.Stage.TheVariants.{Matrix}
use Rattle.reading.specs.Stands.{stage_of, n_of, m_of, clauses_of, early, full}
use Rattle.reading.proofs.Stages.{in_matrix}

module _ (S : Sizes) (d : Draft) (at : Matrix ≡ stage_of d) (t : Next) where
  -- 0 ends a clause
  pub end_fits : sort t ≡ 4 → size t ≡ 0 → early d ≡ false → length (clauses_of d) < m_of d → fault S d t ≡ None
  end_fits natural none =
      in_matrix (λ d. early d ≡ false → length (clauses_of d) < m_of d → fault S d t ≡ None) (λ n m bs Cs C e h. grind (arith, nat_tests)) d at

  -- any other number stands for a literal
  pub literal_fits : (negated : Bool) → sort t ≡ cond negated 5 4 → (size t ≡ 0 → ⊥) →
      length (clauses_of d) < m_of d → full S d ≡ false → early d ≡ false → size t ≤ n_of d → fault S d t ≡ None
  literal_fits true number some =
      in_matrix (λ d. length (clauses_of d) < m_of d → full S d ≡ false → early d ≡ false → size t ≤ n_of d → fault S d t ≡ None)
      (λ n m bs Cs C h e i k. grind (arith, nat_tests)) d at
  literal_fits false number some =
      in_matrix (λ d. length (clauses_of d) < m_of d → full S d ≡ false → early d ≡ false → size t ≤ n_of d → fault S d t ≡ None)
      (λ n m bs Cs C h e i k. grind (arith, nat_tests)) d at
