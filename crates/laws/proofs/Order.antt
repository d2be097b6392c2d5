-- The order in which variables are set: each variable once, levels ascending.
use Rattle.std.proofs.Common.{◌≡◌, ℕ, zero, suc, ◌+◌, ◌<◌, ◌≤◌, Bool, true, eqb, ◌⊎◌, List, [], ◌∷◌, ◌++◌, length, filter, sym, refl, ap, ◌∙◌, subst, ap₂, inl, inr, ⊎_elim, arith, length-append}
use mathlib.Core.Logic.{∥∥₁_elim}
use native.Mathlib.Bridge.{le_prop}
use Rattle.std.specs.List.{range_with_len, flat_map}
use Rattle.std.proofs.lemmas.List.FromFn.{length-range_with_len}
use Rattle.std.proofs.lemmas.Bool.{cases_eq, cases_lt, cond_both, cond-true, cond-false, eq-eqb, ne_eqb, eqb-true, both_ways}
use Rattle.calculus.specs.Sets.{◌∈◌}
use Rattle.calculus.specs.Meaning.{Meaning, Formed, Variable, level_of}
use Rattle.calculus.specs.Truth.{at_level, order}
use Rattle.laws.specs.Order.{Precedes, InOrder, OrderRight}
use Rattle.laws.proofs.Sets.{in_left, in_right, in_append}
use Rattle.laws.proofs.Formedness.{above}

pub in_counting : (a n x : ℕ) → a ≤ x → x < a + n → x ∈ range_with_len a n
in_counting a zero x h k = absurd (omega arith)
in_counting a (suc n) x h k = ⊎_elim (λ e. inl e) (λ e. inr (in_counting (a + 1) n x (omega arith) (omega arith))) (cases_eq x a)

pub from_counting : (a n x : ℕ) → x ∈ range_with_len a n → (a ≤ x) × (x < a + n)
from_counting a zero x i = absurd i
from_counting a (suc n) x (inl e) = (omega arith, omega arith)
from_counting a (suc n) x (inr i) = let r : (a + 1 ≤ x) × (x < a + 1 + n) = from_counting (a + 1) n x i in (omega arith, omega arith)

pub in_kept : (p : ℕ → Bool) (xs : List ℕ) (x : ℕ) → x ∈ xs → p x ≡ true → x ∈ filter p xs
in_kept p [] x i e = absurd i
in_kept p (y ∷ ys) x i e =
    cond_both (p y) (y ∷ filter p ys) (filter p ys) (λ zs. x ∈ zs) (λ h. ⊎_elim (λ k. inl k) (λ k. inr (in_kept p ys x k e)) i)
    (λ h. ⊎_elim (λ k. absurd (both_ways (p y) h (ap p (sym k) ∙ e))) (λ k. in_kept p ys x k e) i)

pub from_kept : (p : ℕ → Bool) (xs : List ℕ) (x : ℕ) → x ∈ filter p xs → (x ∈ xs) × (p x ≡ true)
from_kept p [] x i = absurd i
from_kept p (y ∷ ys) x i =
    cond_both (p y) (y ∷ filter p ys) (filter p ys) (λ zs. x ∈ zs → (x ∈ (y ∷ ys)) × (p x ≡ true))
    (λ h. ⊎_elim (λ k. (inl k, ap p k ∙ h)) (λ k. (inr (from_kept p ys x k).0, (from_kept p ys x k).1)))
    (λ h k. (inr (from_kept p ys x k).0, (from_kept p ys x k).1)) i

in_joined : (f : ℕ → List ℕ) (ks : List ℕ) (k x : ℕ) → k ∈ ks → x ∈ f k → x ∈ flat_map f ks
in_joined f [] k x i j = absurd i
in_joined f (y ∷ ys) k x (inl e) j = in_left x (f y) (flat_map f ys) (subst (λ z. x ∈ f z) e j)
in_joined f (y ∷ ys) k x (inr i) j = in_right x (f y) (flat_map f ys) (in_joined f ys k x i j)

from_joined : (f : ℕ → List ℕ) (ks : List ℕ) (x : ℕ) → x ∈ flat_map f ks → (k : ℕ) × (k ∈ ks) × (x ∈ f k)
from_joined f [] x i = absurd i
from_joined f (y ∷ ys) x i =
    ⊎_elim (λ h. (y, inl refl, h)) (λ h. let r : (k : ℕ) × (k ∈ ys) × (x ∈ f k) = from_joined f ys x h in (r.0, inr r.1, r.2))
    (in_append x (f y) (flat_map f ys) i)

in_order_append : (m : Meaning) (xs ys : List ℕ) → InOrder m xs → InOrder m ys → ((x y : ℕ) → x ∈ xs → y ∈ ys → Precedes m x y) → InOrder m (xs ++ ys)
in_order_append m [] ys a b h = b
in_order_append m (x ∷ xs) ys a b h = (
  λ w i. ⊎_elim (a.0 w) (h x w (inl refl)) (in_append w xs ys i),
  in_order_append m xs ys a.1 b (λ z y i. h z y (inr i)),
)

-- by number, where all that passes has the same level
in_order_kept : (m : Meaning) (k a n : ℕ) → InOrder m (filter (λ v. eqb (level_of m v) k) (range_with_len a n))
in_order_kept m k a zero = tt
in_order_kept m k a (suc n) =
    cond_both (level_is a) (a ∷ rest) rest (InOrder m) (λ e. (λ w i. later e w i, in_order_kept m k (a + 1) n)) (λ e. in_order_kept m k (a + 1) n)
  where
    level_is : ℕ → Bool
    level_is v = eqb (level_of m v) k

    rest : List ℕ
    rest = filter (λ v. eqb (level_of m v) k) (range_with_len (a + 1) n)

    later : eqb (level_of m a) k ≡ true → (w : ℕ) → w ∈ filter (λ v. eqb (level_of m v) k) (range_with_len (a + 1) n) → Precedes m a w
    later e w i =
        let r : (w ∈ range_with_len (a + 1) n) × (eqb (level_of m w) k ≡ true) = from_kept (λ v. eqb (level_of m v) k) (range_with_len (a + 1) n) w i in
        inr (eqb-true (level_of m a) k e ∙ sym (eqb-true (level_of m w) k r.1), omega (arith, from_counting (a + 1) n w r.0))

-- no element twice
abbrev pub Apart : List ℕ → Type 0
Apart [] = Unit {0}
Apart (x ∷ xs) = (x ∈ xs → ⊥) × Apart xs

-- the level of v is at most that of each of vs
abbrev pub First : Meaning → ℕ → List ℕ → Type 0
First m v vs = (w : ℕ) → w ∈ vs → level_of m v ≤ level_of m w

abbrev pub Ordered : Meaning → List ℕ → Type 0
Ordered m [] = Unit {0}
Ordered m (v ∷ vs) = First m v vs × Ordered m vs

apart_from : (m : Meaning) (vs : List ℕ) → InOrder m vs → Apart vs
apart_from m [] o = tt
apart_from m (v ∷ vs) o = (λ i. omega (arith, o.0 v i), apart_from m vs o.1)

ordered_from : (m : Meaning) (vs : List ℕ) → InOrder m vs → Ordered m vs
ordered_from m [] o = tt
ordered_from m (v ∷ vs) o = (λ w i. omega (arith, o.0 w i), ordered_from m vs o.1)

-- the rows of xs: its elements of the levels a, a + 1 and on, K levels
module _ (lev : ℕ → ℕ) where
  abbrev row : List ℕ → ℕ → List ℕ
  row xs k = filter (λ v. eqb (lev v) k) xs

  abbrev rows : ℕ → ℕ → List ℕ → List ℕ
  rows a K xs = flat_map (row xs) (range_with_len a K)

  row_hit : (x : ℕ) (xs : List ℕ) (k : ℕ) → lev x ≡ k → row (x ∷ xs) k ≡ x ∷ row xs k
  row_hit x xs k e = cond-true (eqb (lev x) k) (x ∷ row xs k) (row xs k) (eq-eqb (lev x) k e)

  row_miss : (x : ℕ) (xs : List ℕ) (k : ℕ) → (lev x ≡ k → ⊥) → row (x ∷ xs) k ≡ row xs k
  row_miss x xs k n = cond-false (eqb (lev x) k) (x ∷ row xs k) (row xs k) (ne_eqb (lev x) k n)

  rows_miss : (a K x : ℕ) (xs : List ℕ) → (lev x < a) ⊎ (a + K ≤ lev x) → rows a K (x ∷ xs) ≡ rows a K xs
  rows_miss a zero x xs h = refl
  rows_miss a (suc K) x xs h = ap₂ (λ y z. y ++ z) (row_miss x xs a (not_here h)) (rows_miss (a + 1) K x xs (further h))
    where
      not_here : (lev x < a) ⊎ (a + suc K ≤ lev x) → lev x ≡ a → ⊥
      not_here (inl k) e = omega arith
      not_here (inr k) e = omega arith

      further : (lev x < a) ⊎ (a + suc K ≤ lev x) → (lev x < a + 1) ⊎ (a + 1 + K ≤ lev x)
      further (inl k) = inl (omega arith)
      further (inr k) = inr (omega arith)

  rows_hit : (a K x : ℕ) (xs : List ℕ) → a ≤ lev x → lev x < a + K → length (rows a K (x ∷ xs)) ≡ suc (length (rows a K xs))
  rows_hit a zero x xs h k = absurd (omega arith)
  rows_hit a (suc K) x xs h k =
      ⊎_elim (λ e. ap₂ (λ y z. length (y ++ z)) (row_hit x xs a e) (rows_miss (a + 1) K x xs (inl (omega arith))))
      (λ n. ap (λ y. length (y ++ rows (a + 1) K (x ∷ xs))) (row_miss x xs a n)
      ∙ omega (arith, length-append (row xs a) (rows (a + 1) K (x ∷ xs)), length-append (row xs a) (rows (a + 1) K xs), rows_hit (a + 1) K x xs (omega arith) (omega arith)))
      (cases_eq (lev x) a)

  rows_few : (a K : ℕ) (xs : List ℕ) → length (rows a K xs) ≤ length xs
  rows_few a K [] = none a K
    where
      none : (a K : ℕ) → length (rows a K []) ≤ 0
      none a zero = omega arith
      none a (suc K) = none (a + 1) K
  rows_few a K (x ∷ xs) = by (rows_few a K xs) (cases_lt (lev x) a) (cases_lt (lev x) (a + K))
    where
      by : length (rows a K xs) ≤ length xs → (lev x < a) ⊎ (a ≤ lev x) → (lev x < a + K) ⊎ (a + K ≤ lev x) → length (rows a K (x ∷ xs)) ≤ suc (length xs)
      by rest (inl h) k = omega (arith, ap length (rows_miss a K x xs (inl h)))
      by rest (inr h) (inl k) = omega (arith, rows_hit a K x xs h k)
      by rest (inr h) (inr k) = omega (arith, ap length (rows_miss a K x xs (inr k)))

  rows_all : (a K : ℕ) (xs : List ℕ) → ((x : ℕ) → x ∈ xs → (a ≤ lev x) × (lev x < a + K)) → length (rows a K xs) ≡ length xs
  rows_all a K [] h = let r : length (rows a K []) ≤ length {A = ℕ} [] = rows_few a K [] in omega arith
  rows_all a K (x ∷ xs) h = rows_hit a K x xs (h x (inl refl)).0 (h x (inl refl)).1 ∙ ap suc (rows_all a K xs (λ y i. h y (inr i)))

  rows_many : (a K : ℕ) (xs : List ℕ) → ((k : ℕ) → a ≤ k → k < a + K → 1 ≤ length (row xs k)) → K ≤ length (rows a K xs)
  rows_many a zero xs h = omega arith
  rows_many a (suc K) xs h =
      let one : 1 ≤ length (row xs a) = h a (omega arith) (omega arith) in
      let rest : K ≤ length (rows (a + 1) K xs) = rows_many (a + 1) K xs (λ k i j. h k (omega arith) (omega arith)) in
      omega (arith, length-append (row xs a) (rows (a + 1) K xs))

some_length : (xs : List ℕ) (x : ℕ) → x ∈ xs → 1 ≤ length xs
some_length [] x i = absurd i
some_length (y ∷ ys) x i = omega arith

module _ (m : Meaning) where
  in_level : (k v : ℕ) → Variable m.n v → level_of m v ≡ k → v ∈ at_level m k
  in_level k v b e = in_kept (λ w. eqb (level_of m w) k) (range_with_len 1 m.n) v (in_counting 1 m.n v b.0 (omega (arith, b.1))) (eq-eqb (level_of m v) k e)

  from_level : (k v : ℕ) → v ∈ at_level m k → Variable m.n v × (level_of m v ≡ k)
  from_level k v i =
      let r : (v ∈ range_with_len 1 m.n) × (eqb (level_of m v) k ≡ true) = from_kept (λ w. eqb (level_of m w) k) (range_with_len 1 m.n) v i in
      let s : (1 ≤ v) × (v < 1 + m.n) = from_counting 1 m.n v r.0 in
      ((s.0, omega arith), eqb-true (level_of m v) k r.1)

  -- from the level a on, K levels
  from_levels : (a K v : ℕ) → v ∈ flat_map (at_level m) (range_with_len a K) → Variable m.n v × (a ≤ level_of m v)
  from_levels a K v i =
      let r : (k : ℕ) × (k ∈ range_with_len a K) × (v ∈ at_level m k) = from_joined (at_level m) (range_with_len a K) v i in
      let s : (a ≤ r.0) × (r.0 < a + K) = from_counting a K r.0 r.1 in
      let t : Variable m.n v × (level_of m v ≡ r.0) = from_level r.0 v r.2 in
      (t.0, omega (arith, s.0, t.1))

  pub levels_in_order : (a K : ℕ) → InOrder m (flat_map (at_level m) (range_with_len a K))
  levels_in_order a zero = tt
  levels_in_order a (suc K) =
      in_order_append m (at_level m a) (flat_map (at_level m) (range_with_len (a + 1) K)) (in_order_kept m a 1 m.n) (levels_in_order (a + 1) K)
      (λ x y i j. inl (omega (arith, (from_level a x i).1, (from_levels (a + 1) K y j).1)))

  pub ordered : Ordered m (order m)
  ordered = ordered_from m (order m) (levels_in_order 1 m.n)

  pub order_apart : Apart (order m)
  order_apart = apart_from m (order m) (levels_in_order 1 m.n)

  pub from_order : (v : ℕ) → v ∈ order m → Variable m.n v
  from_order v i = (from_levels 1 m.n v i).0

  module _ (formed : Formed m) where
    -- no level is empty, so there are no more levels than variables
    level_small : (v : ℕ) → Variable m.n v → level_of m v ≤ m.n
    level_small v b =
        let many : level_of m v ≤ length (rows (level_of m) 1 (level_of m v) (range_with_len 1 m.n)) =
        rows_many (level_of m) 1 (level_of m v) (range_with_len 1 m.n)
        (λ k h i. ∥∥₁_elim (formed.prefix.none_empty v k b h (omega arith)) le_prop (λ w. some_length (at_level m k) w.0 (in_level k w.0 w.1 w.2))) in
        let few : length (rows (level_of m) 1 (level_of m v) (range_with_len 1 m.n)) ≤ length (range_with_len 1 m.n) = rows_few (level_of m) 1 (level_of m v) (range_with_len 1 m.n) in
        omega (arith, length-range_with_len 1 m.n)

    pub in_order : (v : ℕ) → Variable m.n v → v ∈ order m
    in_order v b =
        in_joined (at_level m) (range_with_len 1 m.n) (level_of m v) v
        (in_counting 1 m.n (level_of m v) (above m formed v b) (let h : level_of m v ≤ m.n = level_small v b in omega arith)) (in_level (level_of m v) v b refl)

    pub order_length : length (order m) ≡ m.n
    order_length =
        rows_all (level_of m) 1 m.n (range_with_len 1 m.n)
        (λ v i. let r : (1 ≤ v) × (v < 1 + m.n) = from_counting 1 m.n v i in
        let b : Variable m.n v = (r.0, omega arith) in (above m formed v b, let h : level_of m v ≤ m.n = level_small v b in omega arith))
        ∙ length-range_with_len 1 m.n

    pub order_right : OrderRight m
    order_right = record {
      holds = λ v. (from_order v, in_order v);
      long = order_length;
      in_order = levels_in_order 1 m.n;
    }
