-- Settings as functions that give each variable a value, and truth by them.
use Rattle.std.proofs.Common.{◌≡◌, ℕ, ◌+◌, ◌*◌, ◌/◌, ◌%◌, Bool, true, false, cond, ◌&&◌, ◌||◌, eqb, ◌⊎◌, List, [], ◌∷◌, sym, refl, ap, ◌∙◌, subst, ap₂, inl, inr, ⊎_elim, arith}
use Rattle.std.proofs.lemmas.Bool.{cases_eq, cond-true, cond-false, eq-eqb, ne_eqb}
use Rattle.calculus.specs.Sets.{◌∈◌, has}
use Rattle.calculus.specs.Literals.{var}
use Rattle.calculus.specs.Meaning.{Meaning, Formed, Variable, quantifier_of}
use Rattle.calculus.specs.Truth.{Setting, satisfied, all_satisfied, won, truth, order}
use Rattle.laws.proofs.Formedness.{codes}
use Rattle.laws.proofs.Order.{Apart, order_apart, in_order}

-- a value for each variable
abbrev pub Values : Type 0
Values = ℕ → Bool

abbrev pub put : Values → ℕ → Bool → Values
put f v b w = cond (eqb w v) b (f w)

-- the last bit of the code that a value makes true
abbrev pub bit : Bool → ℕ
bit true = 0
bit false = 1

abbrev pub holds : Values → ℕ → Bool
holds f l = eqb (l % 2) (bit (f (l / 2)))

abbrev pub satisfies : Values → List ℕ → Bool
satisfies f [] = false
satisfies f (l ∷ ls) = holds f l || satisfies f ls

abbrev pub satisfies_all : Values → List (List ℕ) → Bool
satisfies_all f [] = true
satisfies_all f (C ∷ Cs) = satisfies f C && satisfies_all f Cs

-- the values of the variables before vs win, where vs are those that are left, in order
unfoldable pub wins : Meaning → Values → List ℕ → Bool
wins m f [] = satisfies_all f m.clauses
wins m f (v ∷ vs) =
    cond (eqb (quantifier_of m v) 1) (wins m (put f v true) vs || wins m (put f v false) vs) (wins m (put f v true) vs && wins m (put f v false) vs)

abbrev pub none_set : Values
none_set v = false

pub put_same : (f : Values) (v : ℕ) (b : Bool) → put f v b v ≡ b
put_same f v b = cond-true (eqb v v) b (f v) (eq-eqb v v refl)

pub put_other : (f : Values) (v w : ℕ) (b : Bool) → (w ≡ v → ⊥) → put f v b w ≡ f w
put_other f v w b n = cond-false (eqb w v) b (f w) (ne_eqb w v n)

-- the literal that a value makes true
abbrev made_true : ℕ → Bool → ℕ
made_true v true = 2 * v
made_true v false = 2 * v + 1

-- the list and the values agree on the variables that are set
record Agree (α : Setting) (f : Values) (done : List ℕ) : Type 0 where
  on : (l : ℕ) → var l ∈ done → has l α ≡ holds f l
  off : (l : ℕ) → (var l ∈ done → ⊥) → has l α ≡ false

or_false : (b : Bool) → (b || false) ≡ b
or_false true = refl
or_false false = refl

eqb_same : (a b c d : ℕ) → (a ≡ b → c ≡ d) → (c ≡ d → a ≡ b) → eqb a b ≡ eqb c d
eqb_same a b c d to fro =
    ⊎_elim (λ e. eq-eqb a b e ∙ sym (eq-eqb c d (to e))) (λ n. ne_eqb a b n ∙ sym (ne_eqb c d (λ e. n (fro e)))) (cases_eq a b)

over : (v l : ℕ) (b : Bool) → var l ≡ v → eqb l (made_true v b) ≡ eqb (l % 2) (bit b)
over v l true e = eqb_same l (2 * v) (l % 2) 0 (λ h. omega arith) (λ h. omega arith)
over v l false e = eqb_same l (2 * v + 1) (l % 2) 1 (λ h. omega arith) (λ h. omega arith)

not_over : (v l : ℕ) (b : Bool) → (var l ≡ v → ⊥) → l ≡ made_true v b → ⊥
not_over v l true n e = n (omega arith)
not_over v l false n e = n (omega arith)

agree_more : (α : Setting) (f : Values) (done : List ℕ) (v : ℕ) (b : Bool) → Agree α f done → (v ∈ done → ⊥) → Agree (made_true v b ∷ α) (put f v b) (v ∷ done)
agree_more α f done v b a new = record {
  on = λ l i. ⊎_elim (λ e. here l e) (λ n. apart l n ∙ (a.on l (⊎_elim (λ e. absurd (n e)) (λ j. j) i) ∙ ap (λ x. eqb (l % 2) (bit x)) (sym (put_other f v (l / 2) b n)))) (cases_eq (var l) v);
  off = λ l n. apart l (λ e. n (inl e)) ∙ a.off l (λ i. n (inr i));
}
  where
    here : (l : ℕ) → var l ≡ v → has l (made_true v b ∷ α) ≡ holds (put f v b) l
    here l e =
        ap (λ x. eqb l (made_true v b) || x) (a.off l (λ i. new (subst (λ x. x ∈ done) e i)))
        ∙ (or_false (eqb l (made_true v b)) ∙ (over v l b e ∙ ap (λ x. eqb (l % 2) (bit x)) (sym (ap (put f v b) e ∙ put_same f v b))))

    apart : (l : ℕ) → (var l ≡ v → ⊥) → has l (made_true v b ∷ α) ≡ has l α
    apart l n = ap (λ x. x || has l α) (ne_eqb l (made_true v b) (not_over v l b n))

same_clause : (α : Setting) (f : Values) (done C : List ℕ) → Agree α f done → ((l : ℕ) → l ∈ C → var l ∈ done) → satisfied α C ≡ satisfies f C
same_clause α f done [] a h = refl
same_clause α f done (l ∷ C) a h = ap₂ (λ x y. x || y) (a.on l (h l (inl refl))) (same_clause α f done C a (λ k i. h k (inr i)))

same_clauses :
    (α : Setting) (f : Values) (done : List ℕ) (Cs : List (List ℕ)) → Agree α f done → ((C : List ℕ) (l : ℕ) → C ∈ Cs → l ∈ C → var l ∈ done) → all_satisfied α Cs ≡ satisfies_all f Cs
same_clauses α f done [] a h = refl
same_clauses α f done (C ∷ Cs) a h =
    ap₂ (λ x y. x && y) (same_clause α f done C a (λ l. h C l (inl refl))) (same_clauses α f done Cs a (λ D l i. h D l (inr i)))

module _ (m : Meaning) (formed : Formed m) where
  same_won :
      (vs : List ℕ) (α : Setting) (f : Values) (done : List ℕ) → Agree α f done → Apart vs → ((v : ℕ) → v ∈ done → v ∈ vs → ⊥) →
      ((v : ℕ) → Variable m.n v → (v ∈ done) ⊎ (v ∈ vs)) → won m vs α ≡ wins m f vs
  unfolding won wins
  same_won [] α f done a apart clear all =
      same_clauses α f done m.clauses a (λ C l i j. ⊎_elim (λ k. k) (λ k. absurd k) (all (var l) (codes m formed C l i j)))
  same_won (v ∷ vs) α f done a apart clear all =
      ap₂ (λ x y. cond (eqb (quantifier_of m v) 1) (x || y) (x && y)) (same_won vs ((2 * v) ∷ α) (put f v true) (v ∷ done) (more true) apart.1 clear' all')
      (same_won vs ((2 * v + 1) ∷ α) (put f v false) (v ∷ done) (more false) apart.1 clear' all')
    where
      more : (b : Bool) → Agree (made_true v b ∷ α) (put f v b) (v ∷ done)
      more b = agree_more α f done v b a (λ i. clear v i (inl refl))

      clear' : (w : ℕ) → w ∈ (v ∷ done) → w ∈ vs → ⊥
      clear' w i j = ⊎_elim (λ e. apart.0 (subst (λ x. x ∈ vs) e j)) (λ k. clear w k (inr j)) i

      all' : (w : ℕ) → Variable m.n w → (w ∈ (v ∷ done)) ⊎ (w ∈ vs)
      all' w b = ⊎_elim (λ k. inl (inr k)) (⊎_elim (λ k. inl (inl k)) (λ k. inr k)) (all w b)

  -- truth is the same by lists of literals and by values
  pub truth_by_values : truth m ≡ wins m none_set (order m)
  unfolding truth
  truth_by_values =
      same_won (order m) [] none_set [] (record { on = λ l i. absurd i; off = λ l n. refl }) (order_apart m) (λ v i j. i) (λ v b. inr (in_order m formed v b))
