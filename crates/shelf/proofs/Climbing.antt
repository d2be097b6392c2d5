-- A list is a clause exactly where its variables climb: each above the one before, the first above 0.
use Rattle.std.proofs.Common.{◌≡◌, ℕ, zero, suc, ◌+◌, ◌<◌, ◌≤◌, List, [], ◌∷◌, length, get_or, take, sym, refl, ap, ◌∙◌, subst, inl, inr, ⊎_elim, arith}
use Rattle.std.specs.List.{AllByRecursion}
use Rattle.std.proofs.lemmas.Bool.{cases_eq}
use Rattle.calculus.specs.Sets.{◌∈◌}
use Rattle.calculus.specs.Literals.{var, neg, Tautological}
use Rattle.calculus.specs.Meaning.{Code}
use Rattle.laws.specs.Clauses.{Ascending}
use Rattle.laws.proofs.Sets.{neg_is, var_neg, neg_apart}
use Rattle.shelf.specs.Proper.{Proper}

-- after the code a, each code has a greater variable than the one before, and 512 at most
abbrev pub Climbs : ℕ → List ℕ → Type 0
Climbs a [] = Unit {0}
Climbs a (l ∷ ls) = (var a < var l) × (l < 1026) × Climbs l ls

above : (a : ℕ) (C : List ℕ) (k : ℕ) → Climbs a C → k ∈ C → var a < var k
above a [] k h m = absurd m
above a (l ∷ ls) k (up, low, h) (inl e) = omega arith
above a (l ∷ ls) k (up, low, h) (inr m) = let g : var l < var k = above l ls k h m in omega arith

one_each : (a : ℕ) (C : List ℕ) (j k : ℕ) → Climbs a C → j ∈ C → k ∈ C → var j ≡ var k → j ≡ k
one_each a [] j k h m n e = absurd m
one_each a (l ∷ ls) j k (up, low, h) (inl m) (inl n) e = m ∙ sym n
one_each a (l ∷ ls) j k (up, low, h) (inl m) (inr n) e = let g : var l < var k = above l ls k h n in omega arith
one_each a (l ∷ ls) j k (up, low, h) (inr m) (inl n) e = let g : var l < var j = above l ls j h m in omega arith
one_each a (l ∷ ls) j k (up, low, h) (inr m) (inr n) e = one_each l ls j k h m n e

ascending : (a : ℕ) (C : List ℕ) → Climbs a C → Ascending C
ascending a [] h = tt
ascending a (l ∷ ls) (up, low, h) = (λ k m. let g : var l < var k = above l ls k h m in omega arith, ascending l ls h)

codes : (a : ℕ) (C : List ℕ) → Climbs a C → AllByRecursion (Code 512) C
codes a [] h = tt
codes a (l ∷ ls) (up, low, h) = ((omega arith, low), codes l ls h)

-- what climbs is a clause
pub climbs_proper : (C : List ℕ) → Climbs 1 C → Proper C
climbs_proper C h = record {
  ascending = ascending 1 C h;
  tautology_free = λ t. neg_apart t.0 (one_each 1 C (neg t.0) t.0 h t.2 t.1 (var_neg t.0));
  codes = codes 1 C h;
}

climbs : (a : ℕ) (C : List ℕ) → Ascending C → (Tautological C → ⊥) → AllByRecursion (Code 512) C → ((k : ℕ) → k ∈ C → var a < var k) → Climbs a C
climbs a [] up free low first = tt
climbs a (l ∷ ls) up free low first =
    (first l (inl refl), low.0.1, climbs l ls up.1 (λ t. free (t.0, inr t.1, inr t.2)) low.1 next)
  where
    next : (k : ℕ) → k ∈ ls → var l < var k
    next k m =
        let g : l < k = up.0 k m in
        ⊎_elim (λ e. absurd (free (l, inl refl, inr (subst (λ x. x ∈ ls) (omega (arith, neg_is l)) m)))) (λ n. omega arith) (cases_eq (var l) (var k))

codes_above : (C : List ℕ) (k : ℕ) → AllByRecursion (Code 512) C → k ∈ C → 0 < var k
codes_above [] k a m = absurd m
codes_above (l ∷ ls) k a (inl e) = omega (arith, a.0.0)
codes_above (l ∷ ls) k a (inr m) = codes_above ls k a.1 m

-- a clause climbs
pub proper_climbs : (C : List ℕ) → Proper C → Climbs 1 C
proper_climbs C p = climbs 1 C p.ascending p.tautology_free p.codes (λ k m. codes_above C k p.codes m)

low_enough : (a : ℕ) (C : List ℕ) → a < 1026 → Climbs a C → length C + var a ≤ 512
low_enough a [] low h = omega arith
low_enough a (l ∷ ls) low (up, low', h) = let r : length ls + var l ≤ 512 = low_enough l ls low' h in omega arith

-- a clause has 512 literals at most
pub proper_short : (C : List ℕ) → Proper C → length C ≤ 512
proper_short C p = omega (arith, low_enough 1 C (omega arith) (proper_climbs C p))

-- the last code, or a where there is none
abbrev pub last_code : ℕ → List ℕ → ℕ
last_code a [] = a
last_code a (l ∷ ls) = last_code l ls

-- a shorter front climbs too
pub climbs_less : (a i k : ℕ) (C : List ℕ) → i ≤ k → Climbs a (take k C) → Climbs a (take i C)
climbs_less a zero k C le h = tt
climbs_less a (suc i) zero C le h = absurd (omega arith)
climbs_less a (suc i) (suc k) [] le h = tt
climbs_less a (suc i) (suc k) (l ∷ ls) le (up, low, h) = (up, low, climbs_less l i k ls (omega arith) h)

climbs_suc :
    (a i : ℕ) (C : List ℕ) → i < length C → Climbs a (take i C) → var (last_code a (take i C)) < var (get_or C i 0) → get_or C i 0 < 1026 →
    Climbs a (take (suc i) C)
climbs_suc a i [] lt h up low = absurd (omega arith)
climbs_suc a zero (l ∷ ls) lt h up low = (up, low, tt)
climbs_suc a (suc i) (l ∷ ls) lt (up', low', h) up low = (up', low', climbs_suc l i ls (omega arith) h up low)

climbs_here : (a i : ℕ) (C : List ℕ) → i < length C → Climbs a (take (suc i) C) → (var (last_code a (take i C)) < var (get_or C i 0)) × (get_or C i 0 < 1026)
climbs_here a i [] lt h = absurd (omega arith)
climbs_here a zero (l ∷ ls) lt (up, low, h) = (up, low)
climbs_here a (suc i) (l ∷ ls) lt (up, low, h) = climbs_here l i ls (omega arith) h

last_suc : (a i : ℕ) (C : List ℕ) → i < length C → last_code a (take (suc i) C) ≡ get_or C i 0
last_suc a i [] lt = absurd (omega arith)
last_suc a zero (l ∷ ls) lt = refl
last_suc a (suc i) (l ∷ ls) lt = last_suc l i ls (omega arith)

module _ (a i : ℕ) (C : List ℕ) (lt : i < length C) where
  on : suc i ≡ i + 1
  on = omega arith

  -- one code more
  pub climbs_more : Climbs a (take i C) → var (last_code a (take i C)) < var (get_or C i 0) → get_or C i 0 < 1026 → Climbs a (take (i + 1) C)
  climbs_more h up low = subst (λ n. Climbs a (take n C)) on (climbs_suc a i C lt h up low)

  pub climbs_last : Climbs a (take (i + 1) C) → (var (last_code a (take i C)) < var (get_or C i 0)) × (get_or C i 0 < 1026)
  climbs_last h = climbs_here a i C lt (subst (λ n. Climbs a (take n C)) (sym on) h)

  pub last_more : last_code a (take (i + 1) C) ≡ get_or C i 0
  last_more = ap (λ n. last_code a (take n C)) (sym on) ∙ last_suc a i C lt
