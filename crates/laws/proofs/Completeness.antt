-- The lines that are found for a false formula derive the empty clause, with one line at most for each node of the tree of settings.
use Rattle.std.proofs.Common.{◌≡◌, ℕ, zero, suc, ◌+◌, ◌*◌, ◌<◌, ◌≤◌, Bool, false, cond, ◌&&◌, ◌||◌, eqb, ◌⊎◌, List, [], ◌∷◌, ◌++◌, length, get_or, sym, refl, ap, ◌∙◌, subst, inl, inr, ⊎_elim, true≢false, append_assoc, le_trans, arith, length-append}
use Rattle.std.specs.List.{AllByRecursion}
use Rattle.std.proofs.lemmas.Bool.{cond_both, eqb-true, eqb-false, cond-true, cond-false, both_ways, and_cases, or_parts}
use Rattle.calculus.specs.Sets.{◌∈◌, has}
use Rattle.calculus.specs.Literals.{var, neg}
use Rattle.calculus.specs.Meaning.{Meaning, Formed, Variable, Code, level_of, quantifier_of, clause_of}
use Rattle.calculus.specs.Truth.{Setting, satisfied, all_satisfied, won, truth, order}
use Rattle.laws.specs.Order.{Precedes, InOrder}
use Rattle.laws.specs.Clauses.{Ascending, Innermost}
use Rattle.laws.specs.Lines.{Line, resolution, reduction, Plain}
use Rattle.laws.specs.Derivations.{Follows}
use Rattle.laws.specs.Claims.{resolvent, reduced, without}
use Rattle.laws.specs.Refuting.{Part, kept_of, unsatisfied, reduced_by, resolved_by, lost_part, refutation_of}
use Rattle.laws.specs.Theorems.{ProperClause, Complete}
use Rattle.laws.proofs.Sets.{in_append, in_right, get_or_in, from_sorted, has_true, has_from, neg_is, neg_neg, var_neg, same_var, neg_double}
use Rattle.laws.proofs.Ascending.{asc_sorted}
use Rattle.laws.proofs.Rules.{resolvent_is, reduced_is}
use Rattle.laws.proofs.Formedness.{kind, same_kind, codes, all_from}
use Rattle.laws.proofs.Order.{in_order, from_order, order_length, levels_in_order}
use Rattle.laws.proofs.Tree.{Tree, leaf, join, drop, TautologyFree, tree_free}
use Rattle.laws.proofs.Lines.{Kept, kept_more, kept_last, all_append, follows_append, permits_axiom, permits_resolution, permits_reduction, Fine, follows_fine}

-- the nodes of a tree of settings of k variables
unfoldable pub full : ℕ → ℕ
full zero = 1
full (suc k) = full k + full k + 1

full_more : (a b : ℕ) → a ≤ b → full a ≤ full b
unfolding full
full_more zero zero h = omega arith
full_more zero (suc b) h = let k : full zero ≤ full b = full_more zero b (omega arith) in omega arith
full_more (suc a) zero h = absurd (omega arith)
full_more (suc a) (suc b) h = let k : full a ≤ full b = full_more a b (omega arith) in omega arith

no_members : (C : List ℕ) → ((l : ℕ) → l ∈ C → ⊥) → C ≡ []
no_members [] n = refl
no_members (l ∷ C) n = absurd (n l (inl refl))

abbrev NoneEmpty : List (List ℕ) → Type 0
NoneEmpty Cs = (D : List ℕ) → D ∈ Cs → D ≡ [] → ⊥

push_none_empty : (Cs : List (List ℕ)) (C : List ℕ) (l : ℕ) → l ∈ C → NoneEmpty Cs → NoneEmpty (Cs ++ (C ∷ []))
push_none_empty Cs C l m none D i e = ⊎_elim (λ h. none D h e) (⊎_elim (λ h. subst (λ x. l ∈ x) (sym h ∙ e) m) (λ h. h)) (in_append D Cs (C ∷ []) i)

-- a clause that a setting does not satisfy
found : (α : Setting) (Cs : List (List ℕ)) → all_satisfied α Cs ≡ false → (unsatisfied α Cs < length Cs) × (satisfied α (get_or Cs (unsatisfied α Cs) []) ≡ false)
found α [] h = absurd (true≢false h)
found α (C ∷ Cs) h =
    cond_both (satisfied α C) (suc (unsatisfied α Cs)) 0 (λ j. (j < length (C ∷ Cs)) × (satisfied α (get_or (C ∷ Cs) j []) ≡ false))
    (λ e. let r : (unsatisfied α Cs < length Cs) × (satisfied α (get_or Cs (unsatisfied α Cs) []) ≡ false) =
    found α Cs (⊎_elim (λ f. absurd (both_ways (satisfied α C) f e)) (λ f. f) (and_cases (satisfied α C) (all_satisfied α Cs) h)) in (omega arith, r.1))
    (λ e. (omega arith, e))

none_true : (α : Setting) (C : List ℕ) → satisfied α C ≡ false → (l : ℕ) → l ∈ C → l ∈ α → ⊥
none_true α [] h l m i = m
none_true α (k ∷ C) h l (inl e) i = both_ways (has k α) (or_parts (has k α) (satisfied α C) h).0 (has_from k α (subst (λ x. x ∈ α) e i))
none_true α (k ∷ C) h l (inr m) i = none_true α C (or_parts (has k α) (satisfied α C) h).1 l m i

module _ (F : Meaning) (formed : Formed F) where
  -- the variables of α come before vs, and together they are all
  record Partial (α : Setting) (vs : List ℕ) : Type 0 where
    before : (l x : ℕ) → l ∈ α → x ∈ vs → Precedes F (var l) x
    rest : InOrder F vs
    all : (l : ℕ) → Variable F.n (var l) → ((l ∈ α) ⊎ (neg l ∈ α)) ⊎ (var l ∈ vs)
    variables : (v : ℕ) → v ∈ vs → Variable F.n v
    consistent : (l : ℕ) → l ∈ α → neg l ∈ α → ⊥

  -- the next variable set, by a literal of it
  partial_more : (α : Setting) (v : ℕ) (vs : List ℕ) (l : ℕ) → var l ≡ v → Partial α (v ∷ vs) → Partial (l ∷ α) vs
  partial_more α v vs l e p = record {
    before = λ k x i j. ⊎_elim (λ f. subst (λ y. Precedes F y x) (sym (ap var f ∙ e)) (p.rest.0 x j)) (λ i'. p.before k x i' (inr j)) i;
    rest = p.rest.1;
    all = λ k b. ⊎_elim (⊎_elim (λ i. inl (inl (inr i))) (λ i. inl (inr (inr i))))
        (⊎_elim (λ f. inl (⊎_elim (λ g. inl (inl g)) (λ g. inr (inl (ap neg g ∙ neg_neg l))) (either k (f ∙ sym e)))) (λ j. inr j)) (p.all k b);
    variables = λ w i. p.variables w (inr i);
    consistent = λ k i j. ⊎_elim
        (λ f. ⊎_elim (λ g. omega (arith, neg_is k)) (λ j'. new (neg k) j' (var_neg k ∙ (ap var f ∙ e))) j)
        (λ i'. ⊎_elim (λ g. new k i' (sym (var_neg k) ∙ (ap var g ∙ e))) (p.consistent k i') j) i;
  }
    where
      new : (k : ℕ) → k ∈ α → var k ≡ v → ⊥
      new k i f = omega (arith, subst (λ y. Precedes F y v) f (p.before k v i (inl refl)))

      either : (k : ℕ) → var k ≡ var l → (k ≡ l) ⊎ (k ≡ neg l)
      either k f = same_var k l f

  -- every literal of C is made false
  abbrev Falsified : Setting → List ℕ → Type 0
  Falsified α C = (l : ℕ) → l ∈ C → neg l ∈ α

  falsified_free : (α : Setting) (C : List ℕ) → ((l : ℕ) → l ∈ α → neg l ∈ α → ⊥) → Falsified α C → TautologyFree C
  falsified_free α C consistent f l m n = consistent (neg l) (f l m) (f (neg l) n)

  -- a part that follows the clauses kept, and ends in a clause that the setting makes false
  record Right (α : Setting) (kept : List (List ℕ)) (a : Part) (n : ℕ) : Type 0 where
    follows : Follows F kept a.lines (kept_of a)
    plain : AllByRecursion Plain a.lines
    few : length a.lines ≤ n
    falsified : Falsified α a.clause
    ascending : Ascending a.clause
    none_empty : NoneEmpty a.front

  -- where the clause lacks the literal that the last choice made false, the choice does not matter
  without_last : (α : Setting) (k : ℕ) (C : List ℕ) → Falsified (k ∷ α) C → (l : ℕ) → l ∈ C → (l ≡ neg k → ⊥) → neg l ∈ α
  without_last α k C f l m n = ⊎_elim (λ e. absurd (n (sym (neg_neg l) ∙ ap neg e))) (λ i. i) (f l m)

  passed :
      (α : Setting) (kept : List (List ℕ)) (k : ℕ) (a : Part) (n n' : ℕ) → n ≤ n' → has (neg k) a.clause ≡ false → Right (k ∷ α) kept a n → Right α kept a n'
  passed α kept k a n n' le lacks r = record {
    follows = r.follows;
    plain = r.plain;
    few = omega (arith, r.few);
    falsified = λ l m. without_last α k a.clause r.falsified l m (λ e. both_ways (has (neg k) a.clause) lacks (has_from (neg k) a.clause (subst (λ x. x ∈ a.clause) e m)));
    ascending = r.ascending;
    none_empty = r.none_empty;
  }

  resolved :
      (α : Setting) (v : ℕ) (vs : List ℕ) (kept : List (List ℕ)) (a b : Part) (n : ℕ) → Partial α (v ∷ vs) → quantifier_of F v ≡ 1 → Right ((2 * v) ∷ α) kept a n →
      Right ((2 * v + 1) ∷ α) (kept ++ kept_of a) b n → Right α kept (resolved_by (length kept) v a b) (n + n + 1)
  resolved α v vs kept a b n p one ra rb =
      cond_both (has (2 * v + 1) a.clause) (cond (has (2 * v) b.clause) both second) a (λ r. Right α kept r (n + n + 1))
      (λ i. cond_both (has (2 * v) b.clause) both second (λ r. Right α kept r (n + n + 1)) (λ j. at_both (has_true (2 * v + 1) a.clause i) (has_true (2 * v) b.clause j))
      (λ j. at_second (has_true (2 * v + 1) a.clause i) j))
      (λ i. passed α kept (2 * v) a n (n + n + 1) (omega arith) (subst (λ x. has x a.clause ≡ false) (sym (neg_double v)) i) ra)
    where
      mid : List (List ℕ)
      mid = kept ++ kept_of a

      first_line : ℕ
      first_line = length kept + length a.front

      second_line : ℕ
      second_line = length kept + length (kept_of a) + length b.front

      C : List ℕ
      C = resolvent b.clause a.clause v

      last : Line
      last = resolution second_line first_line v

      both : Part
      both = record { lines = a.lines ++ (b.lines ++ (last ∷ [])); front = kept_of a ++ kept_of b; clause = C }

      second : Part
      second = record { lines = a.lines ++ b.lines; front = kept_of a ++ b.front; clause = b.clause }

      neg_odd_double : neg (2 * v + 1) ≡ 2 * v
      neg_odd_double = omega (arith, neg_is (2 * v + 1))

      false_c : Falsified α C
      false_c l m =
          ⊎_elim (λ h. without_last α (2 * v + 1) b.clause rb.falsified l h.0 (λ e. h.1 (e ∙ neg_odd_double)))
          (λ h. without_last α (2 * v) a.clause ra.falsified l h.0 (λ e. h.1 (e ∙ neg_double v))) ((resolvent_is b.clause a.clause v l).0 m)

      fronts : (i : ℕ) → i ∈ a.clause → (D : List (List ℕ)) → NoneEmpty D → NoneEmpty (kept_of a ++ D)
      fronts i h D none E j e = ⊎_elim (λ k. push_none_empty a.front a.clause i h ra.none_empty E k e) (λ k. none E k e) (in_append E (kept_of a) D j)

      at_both : 2 * v + 1 ∈ a.clause → 2 * v ∈ b.clause → Right α kept both (n + n + 1)
      at_both i j = record {
        follows = subst (Follows F kept both.lines) (sym (append_assoc (kept_of a) (kept_of b) (C ∷ [])))
            (follows_append F kept a.lines (b.lines ++ (last ∷ [])) (kept_of a) (kept_of b ++ (C ∷ [])) ra.follows
            (follows_append F mid b.lines (last ∷ []) (kept_of b) (C ∷ []) rb.follows (
              permits_resolution F (mid ++ kept_of b) second_line first_line v b.clause a.clause C
                  (subst (λ x. Kept (mid ++ kept_of b) (x + length b.front) b.clause) (length-append kept (kept_of a)) (kept_last mid b.front b.clause))
                  (kept_more mid (kept_of b) first_line a.clause (kept_last kept a.front a.clause)) (p.variables v (inl refl)) (one, j, i)
                  (asc_sorted (without (2 * v) b.clause ++ without (2 * v + 1) a.clause)) (resolvent_is b.clause a.clause v) (falsified_free α C p.consistent false_c),
              tt,
            )));
        plain = all_append Plain a.lines (b.lines ++ (last ∷ [])) ra.plain (all_append Plain b.lines (last ∷ []) rb.plain (tt, tt));
        few = simp length-append (omega (arith, ra.few, rb.few));
        falsified = false_c;
        ascending = asc_sorted (without (2 * v) b.clause ++ without (2 * v + 1) a.clause);
        none_empty = fronts (2 * v + 1) i (kept_of b) (push_none_empty b.front b.clause (2 * v) j rb.none_empty);
      }

      at_second : 2 * v + 1 ∈ a.clause → has (2 * v) b.clause ≡ false → Right α kept second (n + n + 1)
      at_second i lacks = record {
        follows = subst (Follows F kept (a.lines ++ b.lines)) (sym (append_assoc (kept_of a) b.front (b.clause ∷ [])))
            (follows_append F kept a.lines b.lines (kept_of a) (kept_of b) ra.follows rb.follows);
        plain = all_append Plain a.lines b.lines ra.plain rb.plain;
        few = simp length-append (omega (arith, ra.few, rb.few));
        falsified = (passed α mid (2 * v + 1) b n n (omega arith) (subst (λ x. has x b.clause ≡ false) (sym neg_odd_double) lacks) rb).falsified;
        ascending = rb.ascending;
        none_empty = fronts (2 * v + 1) i b.front rb.none_empty;
      }

  cut :
      (α : Setting) (v k : ℕ) (vs : List ℕ) (kept : List (List ℕ)) (a : Part) (n n' : ℕ) → var k ≡ v → n < n' → Partial α (v ∷ vs) → (quantifier_of F v ≡ 1 → ⊥) →
      Right (k ∷ α) kept a n → Right α kept (reduced_by (length kept) v (neg k) a) n'
  cut α v k vs kept a n n' e lt p other r =
      cond_both (has (neg k) a.clause) more a (λ x. Right α kept x n') (λ i. at_more (has_true (neg k) a.clause i)) (λ i. passed α kept k a n n' (omega arith) i r)
    where
      C : List ℕ
      C = reduced a.clause v

      more : Part
      more = record { lines = a.lines ++ (reduction (length kept + length a.front) v ∷ []); front = kept_of a; clause = C }

      over : var (neg k) ≡ v
      over = var_neg k ∙ e

      two : quantifier_of F v ≡ 2
      two = ⊎_elim (λ f. absurd (other f)) (λ f. f) (kind F formed v (p.variables v (inl refl)))

      inner : Innermost F a.clause v
      inner l m one =
          ⊎_elim (λ f. absurd (other (ap (quantifier_of F) (sym (sym (var_neg l) ∙ (ap var f ∙ e))) ∙ one)))
          (λ i. let h : Precedes F (var (neg l)) v = p.before (neg l) v i (inl refl) in
          let ne : level_of F (var l) ≡ level_of F v → ⊥ = λ g. other (sym (same_kind F formed (var l) v g) ∙ one) in
          omega (arith, subst (λ x. Precedes F x v) (var_neg l) h)) (r.falsified l m)

      signs : neg k ∈ a.clause → (2 * v ∈ a.clause) ⊎ (2 * v + 1 ∈ a.clause)
      signs i =
          ⊎_elim (λ f. inl (subst (λ x. x ∈ a.clause) f i)) (λ f. inr (subst (λ x. x ∈ a.clause) (f ∙ neg_double v) i)) (same_var (neg k) (2 * v) (over ∙ omega arith))

      at_more : neg k ∈ a.clause → Right α kept more n'
      at_more i = record {
        follows = follows_append F kept a.lines (reduction (length kept + length a.front) v ∷ []) (kept_of a) (C ∷ []) r.follows (
          permits_reduction F (kept ++ kept_of a) (length kept + length a.front) v a.clause C (kept_last kept a.front a.clause) (p.variables v (inl refl)) (two, signs i, inner)
              (asc_sorted (without (2 * v) (without (2 * v + 1) a.clause))) (reduced_is a.clause v),
          tt,
        );
        plain = all_append Plain a.lines (reduction (length kept + length a.front) v ∷ []) r.plain (tt, tt);
        few = simp length-append (omega (arith, r.few));
        falsified = λ l m. let d : (l ∈ a.clause) × (var l ≡ v → ⊥) = (reduced_is a.clause v l).0 m in
            without_last α k a.clause r.falsified l d.0 (λ f. d.1 (ap var f ∙ over));
        ascending = asc_sorted (without (2 * v) (without (2 * v + 1) a.clause));
        none_empty = push_none_empty a.front a.clause (neg k) i r.none_empty;
      }

  lost : (vs : List ℕ) (α : Setting) (kept : List (List ℕ)) → Partial α vs → won F vs α ≡ false → Right α kept (lost_part F vs α (length kept)) (full (length vs))
  unfolding won full lost_part
  lost [] α kept p h =
      let j : ℕ = unsatisfied α F.clauses in
      let D : List ℕ = clause_of F j in
      let r : (j < length F.clauses) × (satisfied α D ≡ false) = found α F.clauses h in
      let f : Falsified α D = λ l m. ⊎_elim (⊎_elim (λ i. absurd (none_true α D r.1 l m i)) (λ i. i)) (λ i. absurd i) (p.all l (codes F formed D l (get_or_in F.clauses j [] r.0) m)) in
      record {
        follows = (permits_axiom F kept j D r.0 (λ l. (λ m. m, λ m. m)) (falsified_free α D p.consistent f), tt);
        plain = (tt, tt);
        few = omega arith;
        falsified = λ l m. f l (from_sorted l D m);
        ascending = asc_sorted D;
        none_empty = λ E i e. i;
      }
  lost (v ∷ vs) α kept p h =
      by (λ l e w. λ k. lost vs (l ∷ α) k (partial_more α v vs l e p) w)
    where
      n : ℕ
      n = full (length vs)

      A : Bool
      A = won F vs ((2 * v) ∷ α)

      B : Bool
      B = won F vs ((2 * v + 1) ∷ α)

      even : var (2 * v) ≡ v
      even = omega arith

      odd : var (2 * v + 1) ≡ v
      odd = omega arith

      by :
          ((l : ℕ) → var l ≡ v → won F vs (l ∷ α) ≡ false → (k : List (List ℕ)) → Right (l ∷ α) k (lost_part F vs (l ∷ α) (length k)) (full (length vs))) →
          Right α kept (lost_part F (v ∷ vs) α (length kept)) (full (length (v ∷ vs)))
      by below =
          cond_both (eqb (quantifier_of F v) 1) (resolved_by (length kept) v a b) (cond A cut_odd cut_even) (λ x. Right α kept x (n + n + 1))
          (λ e. let o : (A ≡ false) × (B ≡ false) = or_parts A B (sym (cond-true (eqb (quantifier_of F v) 1) (A || B) (A && B) e) ∙ h) in
          resolved α v vs kept a b n p (eqb-true (quantifier_of F v) 1 e) (below (2 * v) even o.0 kept)
          (subst (λ k. Right ((2 * v + 1) ∷ α) (kept ++ kept_of a) (lost_part F vs ((2 * v + 1) ∷ α) k) n) (length-append kept (kept_of a)) (below (2 * v + 1) odd o.1 (kept ++ kept_of a))))
          (λ e. let other : quantifier_of F v ≡ 1 → ⊥ = eqb-false (quantifier_of F v) 1 e in
          let o : (A && B) ≡ false = sym (cond-false (eqb (quantifier_of F v) 1) (A || B) (A && B) e) ∙ h in
          cond_both A cut_odd cut_even (λ x. Right α kept x (n + n + 1))
          (λ w. let f : B ≡ false = ⊎_elim (λ g. absurd (both_ways A g w)) (λ g. g) (and_cases A B o) in
          subst (λ l. Right α kept (reduced_by (length kept) v l (lost_part F vs ((2 * v + 1) ∷ α) (length kept))) (n + n + 1)) (omega (arith, neg_is (2 * v + 1)))
          (cut α v (2 * v + 1) vs kept (lost_part F vs ((2 * v + 1) ∷ α) (length kept)) n (n + n + 1) odd (omega arith) p other (below (2 * v + 1) odd f kept)))
          (λ w. subst (λ l. Right α kept (reduced_by (length kept) v l a) (n + n + 1)) (neg_double v)
          (cut α v (2 * v) vs kept a n (n + n + 1) even (omega arith) p other (below (2 * v) even w kept))))
        where
          a : Part
          a = lost_part F vs ((2 * v) ∷ α) (length kept)

          b : Part
          b = lost_part F vs ((2 * v + 1) ∷ α) (length kept + length (kept_of a))

          cut_odd : Part
          cut_odd = reduced_by (length kept) v (2 * v) (lost_part F vs ((2 * v + 1) ∷ α) (length kept))

          cut_even : Part
          cut_even = reduced_by (length kept) v (2 * v + 1) a

  nothing_set : Partial [] (order F)
  nothing_set = record {
    before = λ l x i j. absurd i;
    rest = levels_in_order F 1 F.n;
    all = λ l b. inr (in_order F formed (var l) b);
    variables = from_order F;
    consistent = λ l i j. i;
  }

  -- the lines that are found, and that they end in the empty clause
  pub record Refuting : Type 0 where
    pub follows : Follows F [] (refutation_of F).lines (kept_of (refutation_of F))
    pub plain : AllByRecursion Plain (refutation_of F).lines
    pub few : length (refutation_of F).lines ≤ full F.n
    pub ends : (refutation_of F).clause ≡ []
    pub none_empty : NoneEmpty (refutation_of F).front

  pub refuting : truth F ≡ false → Refuting
  unfolding truth
  refuting h =
      let r : Right [] [] (refutation_of F) (full (length (order F))) = lost (order F) [] [] nothing_set h in
      record {
        follows = r.follows;
        plain = r.plain;
        few = subst (λ k. length (refutation_of F).lines ≤ full k) (order_length F formed) r.few;
        ends = no_members (refutation_of F).clause r.falsified;
        none_empty = r.none_empty;
      }

  pub empty_kept : Refuting → [] ∈ kept_of (refutation_of F)
  empty_kept r = in_right [] (refutation_of F).front ((refutation_of F).clause ∷ []) (inl (sym r.ends))

  all_fine : Refuting → (D : List ℕ) → D ∈ kept_of (refutation_of F) → Fine F formed D
  all_fine r D i = follows_fine F formed [] (refutation_of F).lines (kept_of (refutation_of F)) (λ E j. absurd j) r.follows D i

  pub tree_complete : truth F ≡ false → Tree F []
  tree_complete h = (all_fine (refuting h) [] (empty_kept (refuting h))).0

  -- codes of a tree
  tree_codes : {C : List ℕ} → Tree F C → (l : ℕ) → l ∈ C → Variable F.n (var l)
  tree_codes (leaf D m same free) l i = codes F formed D l m ((same l).0 i)
  tree_codes (join k t u b q m n joins free) l i = ⊎_elim (λ h. tree_codes t l h.0) (λ h. tree_codes u l h.0) ((joins l).0 i)
  tree_codes (drop k t b q m inner drops) l i = tree_codes t l ((drops l).0 i).0

-- a clause has no more literals than there are variables
few_literals : (D : List ℕ) (a n : ℕ) → a ≤ n → Ascending D → TautologyFree D → ((l : ℕ) → l ∈ D → (a < var l) × (var l ≤ n)) → length D + a ≤ n
few_literals [] a n le asc free in_range = omega arith
few_literals (l ∷ D) a n le asc free in_range =
    let here : (a < var l) × (var l ≤ n) = in_range l (inl refl) in
    let rest : length D + var l ≤ n = few_literals D (var l) n here.1 asc.1 (λ k i j. free k (inr i) (inr j)) later in
    omega arith
  where
    later : (m : ℕ) → m ∈ D → (var l < var m) × (var m ≤ n)
    later m i =
        let lt : l < m = asc.0 m i in
        let ne : m ≡ neg l → ⊥ = λ e. free l (inl refl) (inr (subst (λ x. x ∈ D) e i)) in
        (omega (arith, neg_is l), (in_range m (inr i)).1)

pub proper_clause : (F : Meaning) (formed : Formed F) (C : List ℕ) → Fine F formed C → ProperClause F C
proper_clause F formed C f = record {
  ascending = f.1;
  tautology_free = λ t. tree_free F f.0 t.0 t.1 t.2;
  codes = all_from (Code F.n) C (λ l i. let b : Variable F.n (var l) = tree_codes F formed f.0 l i in (omega (arith, b.0), omega (arith, b.1)));
  few = let c : length C + 0 ≤ F.n = few_literals C 0 F.n (omega arith) f.1 (tree_free F f.0) (λ l i. tree_codes F formed f.0 l i) in omega arith;
}

pub complete : Complete
unfolding full
complete F formed small h =
    let r : Refuting F formed = refuting F formed h in
    let b : full F.n ≤ full 12 = full_more F.n 12 small in
    record {
      derivation = r.follows;
      plain = r.plain;
      few = le_trans r.few b;
      short = all_from (λ C. length C ≤ 12) (kept_of (refutation_of F)) (λ D i. let p : ProperClause F D = proper_clause F formed D (all_fine F formed r D i) in omega (arith, p.few));
      closed = empty_kept F formed r;
    }
