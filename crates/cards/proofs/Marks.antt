-- Marks, lists of which one place is written, and the first number of which something does not hold.
use Rattle.std.proofs.Common.{◌≡◌, ℕ, zero, suc, ◌<◌, Bool, true, false, ◌⊎◌, List, length, get_or, set, replicate, sym, refl, ◌∙◌, subst, inl, inr, ⊎_elim, arith, get_or-set_other, get_or-set_same}
use Rattle.std.proofs.lemmas.Bool.{cases_eq}

pub unmarked : (n v : ℕ) → get_or (replicate n false) v false ≡ false
unmarked zero v = refl
unmarked (suc n) zero = refl
unmarked (suc n) (suc v) = unmarked n v

-- what is marked stays marked
pub still_marked : (marks : List Bool) (v w : ℕ) → v < length marks → get_or marks w false ≡ true → get_or (set marks v true) w false ≡ true
still_marked marks v w h e =
    ⊎_elim (λ i. subst (λ u. get_or (set marks v true) u false ≡ true) (sym i) (get_or-set_same marks v true false h))
    (λ n. get_or-set_other marks v w true false n ∙ e) (cases_eq w v)

abbrev pub Decides : (ℕ → Type 0) → Type 0
Decides P = (k : ℕ) → P k ⊎ (P k → ⊥)

-- all below n, or a first one that is not so
pub all_or_first : (P : ℕ → Type 0) → Decides P → (n : ℕ)
    → ((k : ℕ) → k < n → P k) ⊎ ((k : ℕ) × (k < n) × ((j : ℕ) → j < k → P j) × (P k → ⊥))
all_or_first P decides zero = inl (λ k h. absurd (omega arith))
all_or_first P decides (suc n) = by (all_or_first P decides n) (decides n)
  where
    by : ((k : ℕ) → k < n → P k) ⊎ ((k : ℕ) × (k < n) × ((j : ℕ) → j < k → P j) × (P k → ⊥)) → P n ⊎ (P n → ⊥)
        → ((k : ℕ) → k < suc n → P k) ⊎ ((k : ℕ) × (k < suc n) × ((j : ℕ) → j < k → P j) × (P k → ⊥))
    by (inr (k, h, below, not_so)) d = inr (k, omega arith, below, not_so)
    by (inl all) (inr not_so) = inr (n, omega arith, all, not_so)
    by (inl all) (inl so) = inl (λ k h. ⊎_elim (λ e. subst P (sym e) so) (λ e. all k (omega arith)) (cases_eq k n))

-- some below n, or none
pub some_or_none : (P : ℕ → Type 0) → Decides P → (n : ℕ) → ((k : ℕ) × (k < n) × P k) ⊎ (((k : ℕ) × (k < n) × P k) → ⊥)
some_or_none P decides n =
    ⊎_elim (λ all. inr (λ (k, h, so). all k h so)) (λ (k, h, below, not_so). inl (k, h, ⊎_elim (λ so. so) (λ none. absurd (not_so none)) (decides k)))
    (all_or_first (λ k. P k → ⊥) (λ k. ⊎_elim (λ so. inr (λ none. none so)) (λ none. inl none) (decides k)) n)
