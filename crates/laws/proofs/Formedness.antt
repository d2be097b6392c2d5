-- What the proofs use of a well-formed formula.
use Rattle.std.proofs.Common.{◌≡◌, ℕ, ◌<◌, ◌≤◌, ◌⊎◌, List, [], ◌∷◌, sym, refl, ap, ◌∙◌, subst, inl, inr, ⊎_elim, arith}
use Rattle.std.specs.List.{AllByRecursion}
use Rattle.std.proofs.lemmas.Bool.{cases_eq, cases_lt}
use Rattle.std.proofs.lemmas.List.{get_or_past}
use Rattle.calculus.specs.Sets.{◌∈◌}
use Rattle.calculus.specs.Literals.{var}
use Rattle.calculus.specs.Meaning.{Meaning, Formed, Variable, Code, Clause, level_of, quantifier_of}

-- what holds of all elements holds of each
pub all_in : {A : Type 0} (P : A → Type 0) (xs : List A) (x : A) → AllByRecursion P xs → x ∈ xs → P x
all_in P [] x a m = absurd m
all_in P (y ∷ ys) x a (inl e) = subst P (sym e) a.0
all_in P (y ∷ ys) x a (inr m) = all_in P ys x a.1 m

pub all_from : {A : Type 0} (P : A → Type 0) (xs : List A) → ((x : A) → x ∈ xs → P x) → AllByRecursion P xs
all_from P [] h = tt
all_from P (y ∷ ys) h = (h y (inl refl), all_from P ys (λ x m. h x (inr m)))

pub cases_variable : (n v : ℕ) → Variable n v ⊎ (Variable n v → ⊥)
cases_variable n v = by (cases_lt 0 v) (cases_lt n v)
  where
    by : (0 < v) ⊎ (v ≤ 0) → (n < v) ⊎ (v ≤ n) → Variable n v ⊎ (Variable n v → ⊥)
    by (inl a) (inr b) = inl (omega arith, b)
    by (inr a) h = inr (λ w. omega (arith, w.0))
    by (inl a) (inl b) = inr (λ w. omega (arith, w.1))

module _ (m : Meaning) (formed : Formed m) where
  -- what is no variable has no level and no quantifier
  pub outside : (v : ℕ) → (Variable m.n v → ⊥) → (level_of m v ≡ 0) × (quantifier_of m v ≡ 0)
  outside v no_variable = by (cases_eq v 0) (cases_lt m.n v)
    where
      by : (v ≡ 0) ⊎ (v ≡ 0 → ⊥) → (m.n < v) ⊎ (v ≤ m.n) → (level_of m v ≡ 0) × (quantifier_of m v ≡ 0)
      by (inl e) h = (ap (level_of m) e ∙ formed.prefix.levels_none, ap (quantifier_of m) e ∙ formed.prefix.quantifiers_none)
      by (inr n) (inl h) = (
        get_or_past m.levels v 0 (omega (arith, formed.prefix.levels_long)),
        get_or_past m.quantifiers v 0 (omega (arith, formed.prefix.quantifiers_long)),
      )
      by (inr n) (inr h) = absurd (no_variable (omega arith, h))

  pub above : (v : ℕ) → Variable m.n v → 1 ≤ level_of m v
  above v h = formed.prefix.from_one v h

  -- what has a level is a variable
  pub below : (v : ℕ) → 1 ≤ level_of m v → Variable m.n v
  below v h = ⊎_elim (λ b. b) (λ n. absurd (let e : level_of m v ≡ 0 = (outside v n).0 in omega arith)) (cases_variable m.n v)

  pub kind : (v : ℕ) → Variable m.n v → (quantifier_of m v ≡ 1) ⊎ (quantifier_of m v ≡ 2)
  kind v h =
      let k : (1 ≤ quantifier_of m v) × (quantifier_of m v ≤ 2) = formed.prefix.kinds v h in
      ⊎_elim (λ e. inl e) (λ n. inr (omega (arith, k.0, k.1))) (cases_eq (quantifier_of m v) 1)

  -- one quantifier a level
  pub same_kind : (v w : ℕ) → level_of m v ≡ level_of m w → quantifier_of m v ≡ quantifier_of m w
  same_kind v w e = by (cases_variable m.n v) (cases_variable m.n w)
    where
      by : Variable m.n v ⊎ (Variable m.n v → ⊥) → Variable m.n w ⊎ (Variable m.n w → ⊥) → quantifier_of m v ≡ quantifier_of m w
      by (inl a) (inl b) = formed.prefix.shared v w a b e
      by (inl a) (inr b) = absurd (b (below w (let h : 1 ≤ level_of m v = above v a in omega arith)))
      by (inr a) (inl b) = absurd (a (below v (let h : 1 ≤ level_of m w = above w b in omega arith)))
      by (inr a) (inr b) = (outside v a).1 ∙ sym (outside w b).1

  -- the literals of clauses are over variables
  pub codes : (C : List ℕ) (l : ℕ) → C ∈ m.clauses → l ∈ C → Variable m.n (var l)
  codes C l i j =
      let c : Code m.n l = all_in (Code m.n) C l (all_in (Clause m.n) m.clauses C formed.clauses i).1 j in
      (omega (arith, c.0), omega (arith, c.1))

  -- what has the level of a variable is one
  pub level_variable : (v w : ℕ) → level_of m w ≡ level_of m v → Variable m.n v → Variable m.n w
  level_variable v w e b = below w (let h : 1 ≤ level_of m v = above v b in omega arith)
