-- What the blocks of a lawful prefix say of levels and quantifiers.
use Rattle.std.proofs.Common.{◌≡◌, ℕ, suc, ◌≤◌, Bool, true, false, cond, eqb, List, [], ◌∷◌, length, sym, refl, ap, ◌∙◌, subst, ⊎_elim, arith}
use Rattle.std.proofs.lemmas.Bool.{cases_Bool, cases_eq, cond_both, cond-true, cond-false, or_cases, or_left, eqb-true, eq-eqb, ne_eqb}
use Rattle.calculus.specs.Sets.{has}
use Rattle.calculus.specs.Meaning.{Variable}
use Rattle.grammar.specs.Draft.{Block, level_in, quantifier_in}
use Rattle.grammar.specs.Lawful.{latest, Binds, Blocks}

-- a level above 0 that is chosen where a variable stands in a block is 0 only where it does not
none_chosen : (b : Bool) (k l : ℕ) → cond b (suc k) l ≡ 0 → (b ≡ false) × (l ≡ 0)
none_chosen true k l e = absurd (omega (arith, e))
none_chosen false k l e = (refl, e)

-- a variable of a block is one of 1 to n, and no earlier block binds it
pub bound_anew : (n : ℕ) (bs : List Block) (q : ℕ) (vs : List ℕ) (v : ℕ) → Binds n bs q vs → has v vs ≡ true → Variable n v × (level_in bs v ≡ 0)
bound_anew n bs q [] v h e = absurd (both_ways_never e)
  where
    both_ways_never : false ≡ true → ⊥
    both_ways_never p = let z : ◌≡◌ {A = ℕ} 0 1 = cc in omega arith
bound_anew n bs q (w ∷ vs) v h e = ⊎_elim
    (λ a. let same = eqb-true v w a in
    subst (λ x. Variable n x × (level_in bs x ≡ 0)) (sym same) (h.1, (none_chosen (has w vs) (length bs) (level_in bs w) h.2).1))
    (λ a. bound_anew n bs q vs v h.0 a)
    (or_cases (eqb v w) (has v vs) e)

-- no level passes the number of blocks
pub level_at_most : (bs : List Block) (v : ℕ) → level_in bs v ≤ length bs
level_at_most [] v = omega arith
level_at_most (b ∷ bs) v =
    cond_both (has v b.variables) (suc (length bs)) (level_in bs v) (λ k. k ≤ suc (length bs)) (λ e. omega arith)
    (λ e. omega (arith, level_at_most bs v))

-- 0 is in no block
pub zero_unbound : (n : ℕ) (bs : List Block) → Blocks n bs → level_in bs 0 ≡ 0
zero_unbound n [] h = refl
zero_unbound n (b ∷ bs) h =
    cond_both (has 0 b.variables) (suc (length bs)) (level_in bs 0) (λ k. k ≡ 0)
    (λ e. absurd (omega (arith, (bound_anew n bs b.quantifier b.variables 0 h.1.binds e).0.0)))
    (λ e. zero_unbound n bs h.0)

-- the variables of the front block, of which there are some, have the highest level
front_variable : (n : ℕ) (bs : List Block) (q : ℕ) (vs : List ℕ) → Binds n bs q vs → 1 ≤ length vs → (v : ℕ) × Variable n v × (has v vs ≡ true)
front_variable n bs q [] h l = absurd (omega (arith, l))
front_variable n bs q (v ∷ vs) h l = (v, h.1, or_left (eqb v v) (has v vs) (eq-eqb v v refl))

-- no level is empty
pub level_inhabited : (n : ℕ) (bs : List Block) → Blocks n bs → (k : ℕ) → 1 ≤ k → k ≤ length bs → (v : ℕ) × Variable n v × (level_in bs v ≡ k)
level_inhabited n [] h k low high = absurd (omega (arith, low, high))
level_inhabited n (b ∷ bs) h k low high = ⊎_elim
    (λ e. let f = front_variable n bs b.quantifier b.variables h.1.binds h.2 in
    (f.0, f.1, cond-true (has f.0 b.variables) (suc (length bs)) (level_in bs f.0) f.2 ∙ sym e))
    (λ ne. let f = level_inhabited n bs h.0 k low (omega (arith, ne, high)) in (
      f.0,
      f.1,
      ⊎_elim
          (λ a. absurd (omega (arith, (bound_anew n bs b.quantifier b.variables f.0 h.1.binds a).1, f.2, low)))
          (λ a. cond-false (has f.0 b.variables) (suc (length bs)) (level_in bs f.0) a ∙ f.2)
          (cases_Bool (has f.0 b.variables)),
    ))
    (cases_eq k (suc (length bs)))

-- the quantifier of the block with the level k
abbrev pub quantifier_at : List Block → ℕ → ℕ
quantifier_at [] k = 0
quantifier_at (b ∷ bs) k = cond (eqb k (suc (length bs))) b.quantifier (quantifier_at bs k)

-- the highest level is that of the latest block
quantifier_at_top : (bs : List Block) → quantifier_at bs (length bs) ≡ latest bs
quantifier_at_top [] = refl
quantifier_at_top (b ∷ bs) =
    cond-true (eqb (suc (length bs)) (suc (length bs))) b.quantifier (quantifier_at bs (suc (length bs)))
    (eq-eqb (suc (length bs)) (suc (length bs)) refl)

-- a level below the highest is one of the earlier blocks
quantifier_at_below : (b : Block) (bs : List Block) (k : ℕ) → k ≤ length bs → quantifier_at (b ∷ bs) k ≡ quantifier_at bs k
quantifier_at_below b bs k h =
    cond-false (eqb k (suc (length bs))) b.quantifier (quantifier_at bs k) (ne_eqb k (suc (length bs)) (λ z. omega (arith, z, h)))

pub quantifier_at_none : (bs : List Block) → quantifier_at bs 0 ≡ 0
quantifier_at_none [] = refl
quantifier_at_none (b ∷ bs) = quantifier_at_below b bs 0 (omega arith) ∙ quantifier_at_none bs

-- a variable has the quantifier of its level
pub quantifier_by_level : (bs : List Block) (v : ℕ) → quantifier_in bs v ≡ quantifier_at bs (level_in bs v)
quantifier_by_level [] v = refl
quantifier_by_level (b ∷ bs) v = ⊎_elim
    (λ e. rw e (sym (quantifier_at_top (b ∷ bs))))
    (λ e. rw e (quantifier_by_level bs v ∙ sym (quantifier_at_below b bs (level_in bs v) (level_at_most bs v))))
    (cases_Bool (has v b.variables))

-- a level's quantifier is 1 or 2
pub quantifier_kind : (n : ℕ) (bs : List Block) → Blocks n bs → (k : ℕ) → 1 ≤ k → k ≤ length bs → (1 ≤ quantifier_at bs k) × (quantifier_at bs k ≤ 2)
quantifier_kind n [] h k low high = absurd (omega (arith, low, high))
quantifier_kind n (b ∷ bs) h k low high = ⊎_elim
    (λ e. rw (eq-eqb k (suc (length bs)) e) (h.1.low, h.1.high))
    (λ ne. rw (ne_eqb k (suc (length bs)) ne) (quantifier_kind n bs h.0 k low (omega (arith, ne, high))))
    (cases_eq k (suc (length bs)))

-- neighbouring levels have different quantifiers
pub quantifiers_alternate : (n : ℕ) (bs : List Block) → Blocks n bs → (k : ℕ) → 1 ≤ k → suc k ≤ length bs → quantifier_at bs k ≡ quantifier_at bs (suc k) → ⊥
quantifiers_alternate n [] h k low high e = omega (arith, high)
quantifiers_alternate n (b ∷ bs) h k low high e =
    ⊎_elim
    (λ top. h.1.turns (sym (quantifier_at_top (b ∷ bs)) ∙ ap (quantifier_at (b ∷ bs)) (sym top) ∙ sym below ∙ ap (quantifier_at bs) (omega (arith, top)) ∙ quantifier_at_top bs))
    (λ ne. quantifiers_alternate n bs h.0 k low (omega (arith, ne, high)) (below ∙ quantifier_at_below b bs (suc k) (omega (arith, ne, high))))
    (cases_eq (suc k) (suc (length bs)))
  where
    below : quantifier_at bs k ≡ quantifier_at (b ∷ bs) (suc k)
    below = sym (quantifier_at_below b bs k (omega (arith, high))) ∙ e
