-- From a true formula no tree has an empty clause at its root.
use Rattle.std.proofs.Common.{◌≡◌, ℕ, ◌/◌, ◌%◌, ◌<◌, ◌≤◌, Bool, true, false, cond, ◌&&◌, ◌||◌, eqb, ◌⊎◌, List, [], ◌∷◌, sym, refl, ap, ◌∙◌, subst, inl, inr, ⊎_elim, true≢false, arith}
use Rattle.std.proofs.lemmas.Bool.{cases_eq, cases_Bool, and_parts, or_cases, cond-false, ne_eqb, eqb-true, eqb-false}
use Rattle.calculus.specs.Sets.{◌∈◌, Same}
use Rattle.calculus.specs.Literals.{var, neg}
use Rattle.calculus.specs.Meaning.{Meaning, Formed, Variable, level_of, quantifier_of}
use Rattle.calculus.specs.Truth.{truth, order}
use Rattle.laws.specs.Clauses.{Innermost, Reduced}
use Rattle.laws.proofs.Sets.{neg_is, var_neg, same_var}
use Rattle.laws.proofs.Order.{First, Ordered, ordered, in_order}
use Rattle.laws.proofs.Settings.{Values, put, bit, holds, satisfies, satisfies_all, wins, none_set, put_same, put_other, truth_by_values}
use Rattle.laws.proofs.Tree.{Tree, leaf, join, drop, Joins, TautologyFree, tree_free}

module _ (F : Meaning) where
  -- the value that is chosen at v: the existential player's by what is wins, the other's by β
  abbrev chosen : Values → ℕ → List ℕ → Values → Bool
  chosen α v vs β = cond (eqb (quantifier_of F v) 1) (wins F (put α v true) vs) (β v)

  -- where the play ends
  abbrev play : Values → List ℕ → Values → Values
  play α [] β = α
  play α (v ∷ vs) β = play (put α v (chosen α v vs β)) vs β

  won_step : (α : Values) (v : ℕ) (vs : List ℕ) (β : Values) → wins F α (v ∷ vs) ≡ true → wins F (put α v (chosen α v vs β)) vs ≡ true
  unfolding wins
  won_step α v vs β h = go (eqb (quantifier_of F v) 1) h
    where
      by : (x : Bool) → (wins F (put α v true) vs ≡ x) → wins F (put α v true) vs || wins F (put α v false) vs ≡ true → wins F (put α v x) vs ≡ true
      by true e k = e
      by false e k = subst (λ y. y || wins F (put α v false) vs ≡ true) e k

      both : (x : Bool) → (wins F (put α v true) vs && wins F (put α v false) vs) ≡ true → wins F (put α v x) vs ≡ true
      both true k = (and_parts (wins F (put α v true) vs) (wins F (put α v false) vs) k).0
      both false k = (and_parts (wins F (put α v true) vs) (wins F (put α v false) vs) k).1

      go :
          (b : Bool) →
          cond b (wins F (put α v true) vs || wins F (put α v false) vs) (wins F (put α v true) vs && wins F (put α v false) vs) ≡ true →
          wins F (put α v (cond b (wins F (put α v true) vs) (β v))) vs ≡ true
      go true k = by (wins F (put α v true) vs) refl k
      go false k = both (β v) k

  play_won : (α : Values) (vs : List ℕ) (β : Values) → wins F α vs ≡ true → wins F (play α vs β) [] ≡ true
  play_won α [] β h = h
  play_won α (v ∷ vs) β h = play_won (put α v (chosen α v vs β)) vs β (won_step α v vs β h)

  -- the variables whose value a change at u leaves
  abbrev Good : ℕ → ℕ → Type 0
  Good u w = (level_of F w < level_of F u) ⊎ ((quantifier_of F w ≡ 1 → ⊥) × (w ≡ u → ⊥))

  module _ (u : ℕ) (not_e : quantifier_of F u ≡ 1 → ⊥) (β β' : Values) (agree : (w : ℕ) → (w ≡ u → ⊥) → β w ≡ β' w) where
    good_apart : (w : ℕ) → Good u w → w ≡ u → ⊥
    good_apart w (inl h) e = let k : level_of F w ≡ level_of F u = ap (level_of F) e in omega arith
    good_apart w (inr h) e = h.1 e

    -- past u
    later : (vs : List ℕ) (α α' : Values) → First F u vs → ((w : ℕ) → Good u w → α w ≡ α' w) → (w : ℕ) → Good u w → play α vs β w ≡ play α' vs β' w
    later [] α α' first same w g = same w g
    later (v ∷ vs) α α' first same w g =
        later vs (put α v (chosen α v vs β)) (put α' v (chosen α' v vs β')) (λ x m. first x (inr m)) step w g
      where
        at_v : Good u v → chosen α v vs β ≡ chosen α' v vs β'
        at_v (inl h) = absurd (let k : level_of F u ≤ level_of F v = first v (inl refl) in omega arith)
        at_v (inr h) =
            cond-false (eqb (quantifier_of F v) 1) (wins F (put α v true) vs) (β v) (ne_eqb (quantifier_of F v) 1 h.0)
            ∙ (agree v h.1 ∙ sym (cond-false (eqb (quantifier_of F v) 1) (wins F (put α' v true) vs) (β' v) (ne_eqb (quantifier_of F v) 1 h.0)))

        step : (x : ℕ) → Good u x → put α v (chosen α v vs β) x ≡ put α' v (chosen α' v vs β') x
        step x gx =
            ⊎_elim
            (λ e. subst (λ y. Good u y → put α v (chosen α v vs β) y ≡ put α' v (chosen α' v vs β') y) (sym e)
            (λ gv. put_same α v (chosen α v vs β) ∙ (at_v gv ∙ sym (put_same α' v (chosen α' v vs β')))) gx)
            (λ n. put_other α v x (chosen α v vs β) n ∙ (same x gx ∙ sym (put_other α' v x (chosen α' v vs β') n)))
            (cases_eq x v)

    before : (vs : List ℕ) (α : Values) → Ordered F vs → (w : ℕ) → Good u w → play α vs β w ≡ play α vs β' w
    before [] α ord w g = refl
    before (v ∷ vs) α ord w g =
        ⊎_elim
        (λ e. later vs (put α v (chosen α v vs β)) (put α v (chosen α v vs β')) (λ x m. subst (λ y. level_of F y ≤ level_of F x) e (ord.0 x m))
        (λ x gx. let n : x ≡ v → ⊥ = λ k. good_apart x gx (k ∙ e) in put_other α v x (chosen α v vs β) n ∙ sym (put_other α v x (chosen α v vs β') n)) w g)
        (λ n. before vs (put α v (chosen α v vs β)) ord.1 w g
        ∙ ap (λ c. play (put α v (cond (eqb (quantifier_of F v) 1) (wins F (put α v true) vs) c)) vs β' w) (agree v n))
        (cases_eq v u)

  -- a universal variable ends as the other player would have it
  as_chosen : (α : Values) (v : ℕ) (vs : List ℕ) (β : Values) → (quantifier_of F v ≡ 1 → ⊥) → chosen α v vs β ≡ β v
  as_chosen α v vs β n = cond-false (eqb (quantifier_of F v) 1) (wins F (put α v true) vs) (β v) (ne_eqb (quantifier_of F v) 1 n)

  stays : (vs : List ℕ) (α β : Values) (w : ℕ) → (quantifier_of F w ≡ 1 → ⊥) → α w ≡ β w → play α vs β w ≡ β w
  stays [] α β w n e = e
  stays (v ∷ vs) α β w n e =
      stays vs (put α v (chosen α v vs β)) β w n
      (⊎_elim
      (λ h. subst (λ x. put α v (chosen α v vs β) x ≡ β x) (sym h) (put_same α v (chosen α v vs β) ∙ as_chosen α v vs β (subst (λ x. quantifier_of F x ≡ 1 → ⊥) h n)))
      (λ h. put_other α v w (chosen α v vs β) h ∙ e)
      (cases_eq w v))

  ends : (vs : List ℕ) (α β : Values) (w : ℕ) → (quantifier_of F w ≡ 1 → ⊥) → w ∈ vs → play α vs β w ≡ β w
  ends [] α β w n m = absurd m
  ends (v ∷ vs) α β w n (inl e) =
      stays vs (put α v (chosen α v vs β)) β w n
      (subst (λ x. put α v (chosen α v vs β) x ≡ β x) (sym e) (put_same α v (chosen α v vs β) ∙ as_chosen α v vs β (subst (λ x. quantifier_of F x ≡ 1 → ⊥) e n)))
  ends (v ∷ vs) α β w n (inr m) = ends vs (put α v (chosen α v vs β)) β w n m

-- a true literal of a satisfied clause
pub true_literal : (α : Values) (C : List ℕ) → satisfies α C ≡ true → (l : ℕ) × (l ∈ C) × (holds α l ≡ true)
true_literal α [] h = absurd (true≢false (sym h))
true_literal α (l ∷ ls) h =
    ⊎_elim (λ e. (l, inl refl, e)) (λ e. let r : (k : ℕ) × (k ∈ ls) × (holds α k ≡ true) = true_literal α ls e in (r.0, inr r.1, r.2))
    (or_cases (holds α l) (satisfies α ls) h)

each_satisfied : (α : Values) (Cs : List (List ℕ)) (D : List ℕ) → satisfies_all α Cs ≡ true → D ∈ Cs → satisfies α D ≡ true
each_satisfied α [] D h m = absurd m
each_satisfied α (C ∷ Cs) D h (inl e) = subst (λ x. satisfies α x ≡ true) (sym e) (and_parts (satisfies α C) (satisfies_all α Cs) h).0
each_satisfied α (C ∷ Cs) D h (inr m) = each_satisfied α Cs D (and_parts (satisfies α C) (satisfies_all α Cs) h).1 m

pub not_both : (α : Values) (l : ℕ) → holds α l ≡ true → holds α (neg l) ≡ true → ⊥
not_both α l h k =
    let a : l % 2 ≡ bit (α (l / 2)) = eqb-true (l % 2) (bit (α (l / 2))) h in
    let b : neg l % 2 ≡ bit (α (neg l / 2)) = eqb-true (neg l % 2) (bit (α (neg l / 2))) k in
    let e : bit (α (neg l / 2)) ≡ bit (α (l / 2)) = ap (λ v. bit (α v)) (var_neg l) in
    omega (arith, neg_is l)

holds_at : (α α' : Values) (l : ℕ) → α (var l) ≡ α' (var l) → holds α' l ≡ true → holds α l ≡ true
holds_at α α' l e h = ap (λ x. eqb (l % 2) (bit x)) e ∙ h

-- the value of its variable at which k is false
against : ℕ → Bool
against k = eqb (k % 2) 1

against_false : (k : ℕ) (b : Bool) → b ≡ against k → eqb (k % 2) (bit b) ≡ true → ⊥
unfolding against
against_false k true e h = let a : k % 2 ≡ 1 = eqb-true (k % 2) 1 (sym e) in let b : k % 2 ≡ 0 = eqb-true (k % 2) 0 h in omega arith
against_false k false e h = eqb-false (k % 2) 1 (sym e) (eqb-true (k % 2) 1 h)

module _ (F : Meaning) (formed : Formed F) (start : wins F none_set (order F) ≡ true) where
  final : Values → Values
  final β = play F none_set (order F) β

  abbrev Safe : List ℕ → Type 0
  Safe C = (β : Values) → (l : ℕ) × (l ∈ C) × (holds (final β) l ≡ true)

  at_leaf : (C D : List ℕ) → D ∈ F.clauses → Same C D → Safe C
  unfolding wins final
  at_leaf C D m same β =
      let r : (l : ℕ) × (l ∈ D) × (holds (final β) l ≡ true) = true_literal (final β) D (each_satisfied (final β) F.clauses D (play_won F none_set (order F) β start) m) in
      (r.0, (same r.0).1 r.1, r.2)

  at_join : (C P Q : List ℕ) (l : ℕ) → Joins P Q l C → Safe P → Safe Q → Safe C
  at_join C P Q l joins safe_p safe_q β = by (safe_p β) (safe_q β)
    where
      by : (a : (x : ℕ) × (x ∈ P) × (holds (final β) x ≡ true)) → (b : (x : ℕ) × (x ∈ Q) × (holds (final β) x ≡ true)) → (x : ℕ) × (x ∈ C) × (holds (final β) x ≡ true)
      by a b =
          ⊎_elim
          (λ e. ⊎_elim
          (λ f. absurd (not_both (final β) l (subst (λ x. holds (final β) x ≡ true) e a.2) (subst (λ x. holds (final β) x ≡ true) f b.2)))
          (λ n. (b.0, (joins b.0).1 (inr (b.1, n)), b.2))
          (cases_eq b.0 (neg l)))
          (λ n. (a.0, (joins a.0).1 (inl (a.1, n)), a.2))
          (cases_eq a.0 l)

  at_drop : (C P : List ℕ) (k : ℕ) → Variable F.n (var k) → quantifier_of F (var k) ≡ 2 → k ∈ P → Innermost F P (var k) → Reduced P (var k) C → TautologyFree P → Safe P → Safe C
  unfolding final
  at_drop C P k bound q m inner drops free safe β = by (safe β')
    where
      u : ℕ
      u = var k

      not_e : quantifier_of F (var k) ≡ 1 → ⊥
      not_e e = omega arith

      β' : Values
      β' = put β (var k) (against k)

      agree : (w : ℕ) → (w ≡ var k → ⊥) → β w ≡ β' w
      agree w n = sym (put_other β (var k) w (against k) n)

      at_k : final β' (var k) ≡ against k
      at_k = ends F (order F) none_set β' (var k) not_e (in_order F formed (var k) bound) ∙ put_same β (var k) (against k)

      good : (l : ℕ) → l ∈ P → (var l ≡ var k → ⊥) → Good F (var k) (var l)
      good l i n = ⊎_elim (λ e. inl (inner l i e)) (λ e. inr (e, n)) (cases_eq (quantifier_of F (var l)) 1)

      by : (a : (x : ℕ) × (x ∈ P) × (holds (final β') x ≡ true)) → (x : ℕ) × (x ∈ C) × (holds (final β) x ≡ true)
      by a =
          ⊎_elim
          (λ e. absurd (⊎_elim
          (λ h. against_false k (final β' (var k)) at_k (subst (λ x. holds (final β') x ≡ true) h a.2))
          (λ h. free k m (subst (λ x. x ∈ P) h a.1))
          (same_var a.0 k e)))
          (λ n. (a.0, (drops a.0).1 (a.1, n), holds_at (final β) (final β') a.0 (before F (var k) not_e β β' agree (order F) none_set (ordered F) (var a.0) (good a.0 a.1 n)) a.2))
          (cases_eq (var a.0) (var k))

  safe : {C : List ℕ} → Tree F C → Safe C
  safe (leaf {C} D m same free) = at_leaf C D m same
  safe (join {C} {P} {Q} l t u b q m n joins free) = at_join C P Q l joins (safe t) (safe u)
  safe (drop {C} {P} k t b q m inner drops) = at_drop C P k b q m inner drops (tree_free F t) (safe t)

pub tree_sound : (F : Meaning) → Formed F → Tree F [] → truth F ≡ false
tree_sound F formed t = ⊎_elim (λ e. absurd (safe F formed (sym (truth_by_values F formed) ∙ e) t none_set).1) (λ e. e) (cases_Bool (truth F))
