-- What a formula is, and which formulas are well formed.
use Rattle.std.specs.Prelude.{◌≡◌, ℕ, ◌+◌, ◌*◌, ◌<◌, ◌≤◌, List, [], ◌∷◌, length, get_or, ◌≢◌, slice_index, slice_index_or}
use Rattle.std.proofs.Math.Logic.{∥∥₁_elim, ∥∥₁_prop}
use mathlib.Core.HLevel.{Π_prop, ⊥_prop, ×_prop, Unit-prop}
use Rattle.std.proofs.Math.Bridge.{le_prop}
use base.Stored.{Coded-set, coded_ℕ}
use Rattle.std.specs.List.{AllByRecursion}

-- variable v has its level (1 is outermost) and its quantifier (1 existential, 2 universal) at place v; place 0 holds 0
pub record Meaning : Type 0 where
  pub n : ℕ
  pub levels : List ℕ
  pub quantifiers : List ℕ
  pub clauses : List (List ℕ)

-- the level of v, or 0 where v is no variable
abbrev pub level_of : Meaning → ℕ → ℕ
level_of m v = slice_index m.levels v

-- the quantifier of v, or 0 where v is no variable
abbrev pub quantifier_of : Meaning → ℕ → ℕ
quantifier_of m v = slice_index m.quantifiers v

-- clause j, or the empty list where there is none
abbrev pub clause_of : Meaning → ℕ → List ℕ
clause_of m j = slice_index_or m.clauses j []

-- the code at place i of clause j, or 0 where there is none
abbrev pub literal_of : Meaning → ℕ → ℕ → ℕ
literal_of m j i = slice_index (clause_of m j) i

-- the variables are the numbers 1 to n
abbrev pub Variable : ℕ → ℕ → Type 0
Variable n v = (1 ≤ v) × (v ≤ n)

-- the codes of literals over the variables 1 to n
abbrev pub Code : ℕ → ℕ → Type 0
Code n l = (2 ≤ l) × (l < 2 * (n + 1))

-- a clause over the variables 1 to n: at most 1,024 codes; it may be empty, repeat a literal or be tautological
abbrev pub Clause : ℕ → List ℕ → Type 0
Clause n C = (length C ≤ 1024) × AllByRecursion (Code n) C

-- 1 to 512 variables; levels from 1 with none empty; one quantifier a level; neighbouring levels differ
pub record Prefix (n : ℕ) (levels quantifiers : List ℕ) : Type 0 where
  pub some : 1 ≤ n
  pub few : n ≤ 512
  pub levels_long : length levels ≡ n + 1
  pub levels_none : get_or levels 0 0 ≡ 0
  pub quantifiers_long : length quantifiers ≡ n + 1
  pub quantifiers_none : get_or quantifiers 0 0 ≡ 0
  pub from_one : (v : ℕ) → Variable n v → 1 ≤ slice_index levels v
  pub none_empty : (v k : ℕ) → Variable n v → 1 ≤ k → k ≤ slice_index levels v → ∥ ((w : ℕ) × Variable n w × (slice_index levels w ≡ k)) ∥₁
  pub kinds : (v : ℕ) → Variable n v → (1 ≤ slice_index quantifiers v) × (slice_index quantifiers v ≤ 2)
  pub shared : (v w : ℕ) → Variable n v → Variable n w → slice_index levels v ≡ slice_index levels w → slice_index quantifiers v ≡ slice_index quantifiers w
  pub differ : (v w : ℕ) → Variable n v → Variable n w → slice_index levels w ≡ slice_index levels v + 1 → slice_index quantifiers v ≢ slice_index quantifiers w
  deriving IsProp as prefix_by

-- a well-formed formula: its prefix, and at most 2,048 clauses over its variables
pub record Formed (m : Meaning) : Type 0 where
  pub prefix : Prefix m.n m.levels m.quantifiers
  pub few_clauses : length m.clauses ≤ 2048
  pub clauses : AllByRecursion (Clause m.n) m.clauses
  deriving IsProp as formed_by

eq_prop : (x y : ℕ) → IsProp (x ≡ y)
eq_prop x y = Coded-set coded_ℕ x y

all_prop : {X : Type 0} (P : X → Type 0) → ((x : X) → IsProp (P x)) → (xs : List X) → IsProp (AllByRecursion P xs)
all_prop P p [] = Unit-prop
all_prop P p (x ∷ xs) = ×_prop (p x) (all_prop P p xs)

-- a prefix is well formed in one way only
pub prefix_prop : (n : ℕ) (levels quantifiers : List ℕ) → IsProp (Prefix n levels quantifiers)
prefix_prop n levels quantifiers =
    prefix_by
    le_prop
    le_prop
    (eq_prop _ _)
    (eq_prop _ _)
    (eq_prop _ _)
    (eq_prop _ _)
    (Π_prop (λ v. Π_prop (λ h. le_prop)))
    (Π_prop (λ v. Π_prop (λ k. Π_prop (λ h. Π_prop (λ a. Π_prop (λ b. ∥∥₁_prop))))))
    (Π_prop (λ v. Π_prop (λ h. ×_prop le_prop le_prop)))
    (Π_prop (λ v. Π_prop (λ w. Π_prop (λ h. Π_prop (λ k. Π_prop (λ e. eq_prop _ _))))))
    (Π_prop (λ v. Π_prop (λ w. Π_prop (λ h. Π_prop (λ k. Π_prop (λ e. Π_prop (λ q. ⊥_prop)))))))

-- a formula is well formed in one way only
pub formed_prop : (m : Meaning) → IsProp (Formed m)
formed_prop m =
    formed_by (prefix_prop m.n m.levels m.quantifiers) le_prop
    (all_prop (Clause m.n) (λ C. ×_prop le_prop (all_prop (Code m.n) (λ l. ×_prop le_prop le_prop) C)) m.clauses)

-- a struct holds these facts truncated; these take them out
pub prefix_out : {n : ℕ} {levels quantifiers : List ℕ} → ∥ Prefix n levels quantifiers ∥₁ → Prefix n levels quantifiers
prefix_out {n} {levels} {quantifiers} t = ∥∥₁_elim t (prefix_prop n levels quantifiers) (λ p. p)

pub formed_out : {m : Meaning} → ∥ Formed m ∥₁ → Formed m
formed_out {m} t = ∥∥₁_elim t (formed_prop m) (λ f. f)
