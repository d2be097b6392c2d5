-- The blocks that the prefix of a well-formed formula is written as, and that they are lawful.
use Rattle.std.proofs.Common.{◌≡◌, ℕ, zero, suc, ◌<◌, ◌≤◌, true, eqb, List, [], ◌∷◌, length, get_or, sym, refl, ap, ◌∙◌, ⊎_elim, arith}
use mathlib.Core.Logic.{∥∥₁_elim}
use native.Mathlib.Bridge.{le_prop}
use Rattle.std.specs.List.{range_with_len, AllByRecursion}
use Rattle.std.proofs.lemmas.List.FromFn.{length-range_with_len, get_or-range_with_len}
use Rattle.std.proofs.ByRecursion.{All-get_or, All-from_get_or, all_kept_by, kept_by_passes}
use Rattle.std.proofs.lemmas.List.{get_or_past, length-reverse}
use Rattle.std.proofs.lemmas.Bool.{cases_eq, cases_lt, cond_both, eq-eqb, ne_eqb, eqb-true, false≢true}
use Rattle.calculus.specs.Meaning.{Meaning, Prefix, Variable, level_of, quantifier_of}
use Rattle.calculus.specs.Sets.{has}
use Rattle.calculus.specs.Truth.{at_level}
use Rattle.grammar.specs.Draft.{Block, level_in, quantifier_in}
use Rattle.grammar.specs.Lawful.{Binds, Opens, Blocks, latest}
use Rattle.writer.specs.Written.{greatest}
use Rattle.writer.proofs.Descents.{down, has_above, has_zero, has_down, down_reverse}

-- the first variable of level k
abbrev pub leader : Meaning → ℕ → ℕ
leader m k = get_or (at_level m k) 0 0

-- level k as a block
abbrev pub block : Meaning → ℕ → Block
block m k = record { quantifier = quantifier_of m (leader m k); variables = down (λ v. eqb (level_of m v) k) m.n }

-- the levels 1 to k as blocks, the latest first
abbrev pub blocks_to : Meaning → ℕ → List Block
blocks_to m zero = []
blocks_to m (suc k) = block m (suc k) ∷ blocks_to m k

-- all levels as blocks
abbrev pub all_blocks : Meaning → List Block
all_blocks m = blocks_to m (greatest m.levels)

length_blocks : (m : Meaning) (k : ℕ) → length (blocks_to m k) ≡ k
length_blocks m zero = refl
length_blocks m (suc k) = ap suc (length_blocks m k)

-- every level is at most the greatest, and that is reached
pub greatest_bounds : (xs : List ℕ) (i : ℕ) → get_or xs i 0 ≤ greatest xs
greatest_bounds [] i = omega arith
greatest_bounds (x ∷ xs) zero = omega arith
greatest_bounds (x ∷ xs) (suc i) = omega (arith, greatest_bounds xs i)

greatest_reached : (xs : List ℕ) → 1 ≤ greatest xs → (i : ℕ) × (get_or xs i 0 ≡ greatest xs)
greatest_reached [] h = absurd (omega arith)
greatest_reached (x ∷ xs) h =
    ⊎_elim (λ l. let r = greatest_reached xs (omega arith) in (suc r.0, omega (arith, r.1))) (λ l. (0, omega arith)) (cases_lt x (greatest xs))

pub counting_variables : (n : ℕ) → AllByRecursion (Variable n) (range_with_len 1 n)
counting_variables n =
    All-from_get_or (Variable n) (range_with_len 1 n) 0
    (λ i h. let l : i < n = omega (arith, length-range_with_len 1 n) in rw (get_or-range_with_len 1 n i 0 l) (omega arith, omega arith))

has_some : (v : ℕ) (xs : List ℕ) → has v xs ≡ true → 1 ≤ length xs
has_some v [] h = absurd (false≢true h)
has_some v (x ∷ xs) h = omega arith

none_level : (m : Meaning) (k : ℕ) → level_in (blocks_to m k) 0 ≡ 0
none_level m zero = refl
none_level m (suc k) = rw (has_zero (λ v. eqb (level_of m v) (suc k)) m.n) (none_level m k)

none_quantifier : (m : Meaning) (k : ℕ) → quantifier_in (blocks_to m k) 0 ≡ 0
none_quantifier m zero = refl
none_quantifier m (suc k) = rw (has_zero (λ v. eqb (level_of m v) (suc k)) m.n) (none_quantifier m k)

module _ (m : Meaning) (p : Prefix m.n m.levels m.quantifiers) where
  -- a variable stands in the block of its level, and in no other
  in_block : (k v : ℕ) → Variable m.n v → has v (block m k).variables ≡ eqb (level_of m v) k
  in_block k v h = has_down (λ w. eqb (level_of m w) k) m.n v h.0 h.1

  some_at : (k v : ℕ) → Variable m.n v → level_of m v ≡ k → 1 ≤ length (at_level m k)
  some_at k v h e =
      let s = has_some v (block m k).variables (in_block k v h ∙ eq-eqb (level_of m v) k e) in
      omega (arith, ap length (down_reverse (λ w. eqb (level_of m w) k) m.n), length-reverse (at_level m k))

  leader_at : (k : ℕ) → 1 ≤ length (at_level m k) → Variable m.n (leader m k) × (level_of m (leader m k) ≡ k)
  leader_at k h =
      let test = λ (v : ℕ). eqb (level_of m v) k in (
        All-get_or (Variable m.n) (at_level m k) 0 0 (omega arith) (all_kept_by test (Variable m.n) (range_with_len 1 m.n) (counting_variables m.n)),
        eqb-true (level_of m (leader m k)) k (All-get_or (λ v. test v ≡ true) (at_level m k) 0 0 (omega arith) (kept_by_passes test (range_with_len 1 m.n))),
      )

  level_above : (k v : ℕ) → Variable m.n v → k < level_of m v → level_in (blocks_to m k) v ≡ 0
  level_above zero v h l = refl
  level_above (suc k) v h l =
      rw (in_block (suc k) v h, ne_eqb (level_of m v) (suc k) (λ e. omega arith)) (level_above k v h (omega arith))

  level_at : (k v : ℕ) → Variable m.n v → level_of m v ≤ k → level_in (blocks_to m k) v ≡ level_of m v
  level_at zero v h l = absurd (omega (arith, p.from_one v h))
  level_at (suc k) v h l =
      ⊎_elim (λ e. rw (in_block (suc k) v h, eq-eqb (level_of m v) (suc k) e) (omega (arith, length_blocks m k)))
      (λ ne. rw (in_block (suc k) v h, ne_eqb (level_of m v) (suc k) ne) (level_at k v h (omega arith)))
      (cases_eq (level_of m v) (suc k))

  quantifier_at : (k v : ℕ) → Variable m.n v → level_of m v ≤ k → quantifier_in (blocks_to m k) v ≡ quantifier_of m v
  quantifier_at zero v h l = absurd (omega (arith, p.from_one v h))
  quantifier_at (suc k) v h l =
      ⊎_elim
      (λ e.
      let w = leader_at (suc k) (some_at (suc k) v h e) in
      rw (in_block (suc k) v h, eq-eqb (level_of m v) (suc k) e) (p.shared (leader m (suc k)) v w.0 h (w.1 ∙ sym e)))
      (λ ne. rw (in_block (suc k) v h, ne_eqb (level_of m v) (suc k) ne) (quantifier_at k v h (omega arith)))
      (cases_eq (level_of m v) (suc k))

  -- what has a level is a variable
  leveled : (v : ℕ) → 1 ≤ level_of m v → Variable m.n v
  leveled zero h = absurd (omega (arith, p.levels_none))
  leveled (suc v) h =
      (omega arith, ⊎_elim (λ l. absurd (omega (arith, get_or_past m.levels (suc v) 0 (omega (arith, p.levels_long))))) (λ l. l) (cases_lt m.n (suc v)))

  -- no level up to the greatest is empty
  pub some_at_each : (k : ℕ) → 1 ≤ k → k ≤ greatest m.levels → 1 ≤ length (at_level m k)
  some_at_each k low high =
      let r = greatest_reached m.levels (omega arith) in
      ∥∥₁_elim (p.none_empty r.0 k (leveled r.0 (omega (arith, r.1))) low (omega (arith, r.1))) le_prop
      (λ w. some_at k w.0 w.1 w.2)

  some_in_block : (k : ℕ) → 1 ≤ k → k ≤ greatest m.levels → 1 ≤ length (block m k).variables
  some_in_block k low high =
      omega (arith, some_at_each k low high, ap length (down_reverse (λ w. eqb (level_of m w) k) m.n), length-reverse (at_level m k))

  binds : (k q n : ℕ) → n ≤ m.n → Binds m.n (blocks_to m k) q (down (λ v. eqb (level_of m v) (suc k)) n)
  binds k q zero h = tt
  binds k q (suc n) h =
      let test = λ (v : ℕ). eqb (level_of m v) (suc k) in
      cond_both (test (suc n)) _ _ (Binds m.n (blocks_to m k) q)
      (λ e.
      let l = eqb-true (level_of m (suc n)) (suc k) e in
      (binds k q n (omega arith), (omega arith, h), rw (has_above test n (suc n) (omega arith)) (level_above k (suc n) (omega arith, h) (omega arith))))
      (λ _. binds k q n (omega arith))

  leads : (k : ℕ) → suc k ≤ greatest m.levels → Variable m.n (leader m (suc k)) × (level_of m (leader m (suc k)) ≡ suc k)
  leads k h = leader_at (suc k) (some_at_each (suc k) (omega arith) h)

  turns : (k : ℕ) → suc k ≤ greatest m.levels → quantifier_of m (leader m (suc k)) ≡ latest (blocks_to m k) → ⊥
  turns zero h e = omega (arith, (p.kinds (leader m 1) (leads 0 h).0).0)
  turns (suc k) h e =
      let v = leads k (omega arith) in
      let w = leads (suc k) h in
      p.differ (leader m (suc k)) (leader m (suc (suc k))) v.0 w.0 (omega (arith, v.1, w.1)) (sym e)

  opens : (k : ℕ) → suc k ≤ greatest m.levels → Opens m.n (blocks_to m k) (block m (suc k))
  opens k h =
      let kind = p.kinds (leader m (suc k)) (leads k h).0 in
      record {
        low = kind.0;
        high = kind.1;
        turns = turns k h;
        binds = binds k (quantifier_of m (leader m (suc k))) m.n (omega arith);
      }

  pub lawful_blocks : (k : ℕ) → k ≤ greatest m.levels → Blocks m.n (blocks_to m k)
  lawful_blocks zero h = tt
  lawful_blocks (suc k) h = (lawful_blocks k (omega arith), opens k h, some_in_block (suc k) (omega arith) h)

  -- the blocks give back the levels and the quantifiers
  pub blocks_level : (v : ℕ) → v ≤ m.n → level_in (blocks_to m (greatest m.levels)) v ≡ level_of m v
  blocks_level zero h = none_level m (greatest m.levels) ∙ sym p.levels_none
  blocks_level (suc v) h = level_at (greatest m.levels) (suc v) (omega arith, h) (greatest_bounds m.levels (suc v))

  pub blocks_quantifier : (v : ℕ) → v ≤ m.n → quantifier_in (blocks_to m (greatest m.levels)) v ≡ quantifier_of m v
  blocks_quantifier zero h = none_quantifier m (greatest m.levels) ∙ sym p.quantifiers_none
  blocks_quantifier (suc v) h = quantifier_at (greatest m.levels) (suc v) (omega arith, h) (greatest_bounds m.levels (suc v))
