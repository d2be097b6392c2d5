-- There are at most as many blocks as variables.
use Rattle.std.proofs.Common.{◌≡◌, ℕ, zero, suc, ◌+◌, ◌<◌, ◌≤◌, Bool, true, false, cond, eqb, List, [], ◌∷◌, length, sym, refl, ap, ◌∙◌, subst, ⊎_elim, arith}
use Rattle.std.proofs.lemmas.Bool.{cases_eq, eq-eqb, ne_eqb, cond_both}
use Rattle.grammar.specs.Draft.{Block, level_in}
use Rattle.grammar.specs.Lawful.{Binds, Blocks}

abbrev block : ℕ → List ℕ → Block
block q vs = record { quantifier = q; variables = vs }

-- how many of the variables 1 to k are bound
abbrev bound : List Block → ℕ → ℕ
bound bs zero = 0
bound bs (suc k) = cond (eqb (level_in bs (suc k)) 0) (bound bs k) (suc (bound bs k))

bound_most : (bs : List Block) (k : ℕ) → bound bs k ≤ k
bound_most bs zero = omega arith
bound_most bs (suc k) =
    let h = bound_most bs k in
    cond_both (eqb (level_in bs (suc k)) 0) (bound bs k) (suc (bound bs k)) (λ x. x ≤ suc k) (λ e. omega arith) (λ e. omega arith)

bound_stays : (bs : List Block) (k : ℕ) → level_in bs (suc k) ≡ 0 → bound bs (suc k) ≡ bound bs k
bound_stays bs k e = rw (eq-eqb (level_in bs (suc k)) 0 e) refl

bound_grows : (bs : List Block) (k : ℕ) → 1 ≤ level_in bs (suc k) → bound bs (suc k) ≡ suc (bound bs k)
bound_grows bs k h = rw (ne_eqb (level_in bs (suc k)) 0 (λ e. omega arith)) refl

suc_cond : (b : Bool) (x y : ℕ) → cond b (suc x) (suc y) ≡ suc (cond b x y)
suc_cond true x y = refl
suc_cond false x y = refl

module _ (bs : List Block) (q v : ℕ) (vs : List ℕ) where
  -- binding v changes the level of v alone
  pub level_same : level_in (block q (v ∷ vs) ∷ bs) v ≡ suc (length bs)
  level_same = rw (eq-eqb v v refl) refl

  pub level_other : (w : ℕ) → (w ≡ v → ⊥) → level_in (block q (v ∷ vs) ∷ bs) w ≡ level_in (block q vs ∷ bs) w
  level_other w n = rw (ne_eqb w v n) refl

  before : (k : ℕ) → k < v → bound (block q (v ∷ vs) ∷ bs) k ≡ bound (block q vs ∷ bs) k
  before zero h = refl
  before (suc k) h = rw (level_other (suc k) (λ e. omega arith), before k (omega arith)) refl

  one_more : (k : ℕ) → 1 ≤ v → v ≤ k → level_in (block q vs ∷ bs) v ≡ 0 → bound (block q (v ∷ vs) ∷ bs) k ≡ suc (bound (block q vs ∷ bs) k)
  one_more zero low high e = absurd (omega arith)
  one_more (suc k) low high e =
      ⊎_elim
      (
      λ i.
      let grown : 1 ≤ level_in (block q (v ∷ vs) ∷ bs) (suc k) = subst (λ x. 1 ≤ level_in (block q (v ∷ vs) ∷ bs) x) i (omega (arith, level_same)) in
      bound_grows (block q (v ∷ vs) ∷ bs) k grown ∙
      ap suc (before k (omega arith) ∙ sym (bound_stays (block q vs ∷ bs) k (ap (level_in (block q vs ∷ bs)) (sym i) ∙ e)))
      )
      (
      λ i.
      rw (level_other (suc k) (λ j. i (sym j)), one_more k low (omega arith) e)
      (suc_cond (eqb (level_in (block q vs ∷ bs) (suc k)) 0) (bound (block q vs ∷ bs) k) (suc (bound (block q vs ∷ bs) k)))
      )
      (cases_eq v (suc k))

bound_in_block : (n : ℕ) (bs : List Block) (q : ℕ) (vs : List ℕ) → Binds n bs q vs → bound (block q vs ∷ bs) n ≡ bound bs n + length vs
bound_in_block n bs q [] h = omega (arith, vacant_block n)
  where
    vacant_block : (k : ℕ) → bound (block q [] ∷ bs) k ≡ bound bs k
    vacant_block zero = refl
    vacant_block (suc k) = rw (vacant_block k) refl
bound_in_block n bs q (v ∷ vs) h =
    let more = one_more bs q v vs n h.1.0 h.1.1 h.2 in
    omega (arith, more, bound_in_block n bs q vs h.0)

pub few_blocks : (n : ℕ) (bs : List Block) → Blocks n bs → length bs ≤ n
few_blocks n bs h = omega (arith, bound_most bs n, blocks_bound bs h)
  where
    blocks_bound : (bs : List Block) → Blocks n bs → length bs ≤ bound bs n
    blocks_bound [] h = omega arith
    blocks_bound (b ∷ bs) h = omega (arith, blocks_bound bs h.0, h.2, bound_in_block n bs b.quantifier b.variables h.1.binds)
