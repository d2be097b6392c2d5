-- Between derivations and trees: each line's clause has a tree, and a tree is written out as lines.
use Rattle.std.proofs.Common.{◌≡◌, ℕ, ◌+◌, ◌*◌, ◌<◌, ◌⊎◌, List, [], ◌∷◌, ◌++◌, length, get_or, sym, refl, ap, ◌∙◌, subst, inl, inr, ⊎_elim, append_assoc, arith, length-append}
use Rattle.std.specs.List.{AllByRecursion}
use Rattle.std.proofs.lemmas.List.{append-nil, get_or_append_left, get_or-append-add, get_or_push, length_push}
use Rattle.calculus.specs.Sets.{◌∈◌, Same}
use Rattle.calculus.specs.Literals.{var, neg}
use Rattle.calculus.specs.Meaning.{Meaning, Formed, Variable, quantifier_of, clause_of}
use Rattle.laws.specs.Clauses.{Ascending, Resolvable, Resolvent, Innermost, Reducible, Reduced}
use Rattle.laws.specs.Cards.{act}
use Rattle.laws.specs.Lines.{Line, axiom_line, resolution, reduction, symmetry, Plain}
use Rattle.laws.specs.Derivations.{line_of, Permits, Follows, Derivable, DerivablePlainly}
use Rattle.laws.specs.Claims.{sorted}
use Rattle.laws.proofs.Sets.{in_right, in_append, get_or_in, place_of, in_sorted, from_sorted, neg_is, neg_neg, var_neg, same_var, neg_double}
use Rattle.laws.proofs.Ascending.{asc_sorted, sorted_asc}
use Rattle.laws.proofs.Tree.{Tree, leaf, join, drop, Joins, TautologyFree, image, symmetry_maps}

-- upon v, and upon the literal 2v
pub joins_from : (P Q : List ℕ) (v : ℕ) (C : List ℕ) → Resolvent P Q v C → Joins P Q (2 * v) C
joins_from P Q v C r l = (
  λ i. ⊎_elim (λ h. inl h) (λ h. inr (h.0, λ e. h.1 (e ∙ neg_double v))) ((r l).0 i),
  ⊎_elim (λ h. (r l).1 (inl h)) (λ h. (r l).1 (inr (h.0, λ e. h.1 (e ∙ sym (neg_double v))))),
)

-- a tree serves each list of its literals
tree_same : (F : Meaning) (D : List ℕ) {C : List ℕ} → Tree F C → Same C D → Tree F D
tree_same F D (leaf {C} E m same free) s =
    leaf E m (λ l. (λ h. (same l).0 ((s l).1 h), λ h. (s l).0 ((same l).1 h))) (λ l h k. free l ((s l).1 h) ((s (neg l)).1 k))
tree_same F D (join {C} {P} {Q} l t u b q m n joins free) s =
    join {P = P} {Q = Q} l t u b q m n (λ k. (λ h. (joins k).0 ((s k).1 h), λ h. (s k).0 ((joins k).1 h))) (λ k h g. free k ((s k).1 h) ((s (neg k)).1 g))
tree_same F D (drop {C} {P} k t b q m inner drops) s = drop {P = P} k t b q m inner (λ l. (λ h. (drops l).0 ((s l).1 h), λ h. (s l).0 ((drops l).1 h)))

-- line p keeps P
abbrev pub Kept : List (List ℕ) → ℕ → List ℕ → Type 0
Kept kept p P = (p < length kept) × (line_of kept p ≡ P)

pub kept_more : (kept more : List (List ℕ)) (p : ℕ) (P : List ℕ) → Kept kept p P → Kept (kept ++ more) p P
kept_more kept more p P k = let h : p < length kept = k.0 in (omega (arith, length-append kept more), get_or_append_left kept more [] p h ∙ k.1)

pub kept_last : (kept front : List (List ℕ)) (C : List ℕ) → Kept (kept ++ (front ++ (C ∷ []))) (length kept + length front) C
kept_last kept front C = (
  omega (arith, length-append kept (front ++ (C ∷ [])), length_push front C),
  get_or-append-add kept (front ++ (C ∷ [])) (length front) [] ∙ get_or_push front C [] (length front) refl,
)

pub all_append : {A : Type 0} (P : A → Type 0) (xs ys : List A) → AllByRecursion P xs → AllByRecursion P ys → AllByRecursion P (xs ++ ys)
all_append P [] ys a b = b
all_append P (x ∷ xs) ys a b = (a.0, all_append P xs ys a.1 b)

-- ascending lists for sets

sorted_free : (C : List ℕ) → TautologyFree C → TautologyFree (sorted C)
sorted_free C free l m n = free l (from_sorted l C m) (from_sorted (neg l) C n)

sorted_resolvent : (P Q C : List ℕ) (v : ℕ) → Joins P Q (2 * v) C → Resolvent (sorted P) (sorted Q) v (sorted C)
sorted_resolvent P Q C v joins l = (
  λ i. ⊎_elim (λ h. inl (in_sorted l P h.0, h.1)) (λ h. inr (in_sorted l Q h.0, λ e. h.1 (e ∙ sym (neg_double v)))) ((joins l).0 (from_sorted l C i)),
  λ i. in_sorted l C ((joins l).1 (⊎_elim (λ h. inl (from_sorted l P h.0, h.1)) (λ h. inr (from_sorted l Q h.0, λ e. h.1 (e ∙ neg_double v))) i)),
)

sorted_reduced : (P C : List ℕ) (v : ℕ) → Reduced P v C → Reduced (sorted P) v (sorted C)
sorted_reduced P C v drops l = (
  λ i. let d : (l ∈ P) × (var l ≡ v → ⊥) = (drops l).0 (from_sorted l C i) in (in_sorted l P d.0, d.1),
  λ i. in_sorted l C ((drops l).1 (from_sorted l P i.0, i.1)),
)

-- upon the negation, the parents exchanged
pub joins_flip : (P Q C : List ℕ) (l : ℕ) → Joins P Q l C → Joins Q P (neg l) C
joins_flip P Q C l joins x = (
  λ m. ⊎_elim (λ h. inr (h.0, λ e. h.1 (e ∙ neg_neg l))) (λ h. inl h) ((joins x).0 m),
  ⊎_elim (λ h. (joins x).1 (inr h)) (λ h. (joins x).1 (inl (h.0, λ e. h.1 (e ∙ sym (neg_neg l))))),
)

module _ (F : Meaning) where
  pub follows_append :
      (kept : List (List ℕ)) (ls ms : List Line) (Cs Ds : List (List ℕ)) → Follows F kept ls Cs → Follows F (kept ++ Cs) ms Ds → Follows F kept (ls ++ ms) (Cs ++ Ds)
  follows_append kept [] ms [] Ds r t = subst (λ x. Follows F x ms Ds) (append-nil kept) t
  follows_append kept [] ms (C ∷ Cs) Ds r t = absurd r
  follows_append kept (l ∷ ls) ms [] Ds r t = absurd r
  follows_append kept (l ∷ ls) ms (C ∷ Cs) Ds r t =
      (r.0, follows_append (kept ++ (C ∷ [])) ls ms Cs Ds r.1 (subst (λ x. Follows F x ms Ds) (sym (append_assoc kept (C ∷ []) Cs)) t))

  pub follows_length : (kept : List (List ℕ)) (ls : List Line) (Cs : List (List ℕ)) → Follows F kept ls Cs → length Cs ≡ length ls
  follows_length kept [] [] r = refl
  follows_length kept [] (C ∷ Cs) r = absurd r
  follows_length kept (l ∷ ls) [] r = absurd r
  follows_length kept (l ∷ ls) (C ∷ Cs) r = let h : length Cs ≡ length ls = follows_length (kept ++ (C ∷ [])) ls Cs r.1 in omega arith

  -- rules over the clauses of named lines

  -- rules over the clauses of named lines

  pub permits_resolution :
      (out : List (List ℕ)) (p q v : ℕ) (P Q C : List ℕ) → Kept out p P → Kept out q Q → Variable F.n v → Resolvable F P Q v → Ascending C → Resolvent P Q v C → TautologyFree C →
      Permits F out (resolution p q v) C
  permits_resolution out p q v P Q C kp kq b r asc res free = (
    kp.0,
    kq.0,
    b,
    subst (λ x. Resolvable F x (line_of out q) v) (sym kp.1) (subst (λ y. Resolvable F P y v) (sym kq.1) r),
    (asc, subst (λ x. Resolvent x (line_of out q) v C) (sym kp.1) (subst (λ y. Resolvent P y v C) (sym kq.1) res)),
    λ t. free t.0 t.1 t.2,
  )

  pub permits_reduction :
      (out : List (List ℕ)) (p v : ℕ) (P C : List ℕ) → Kept out p P → Variable F.n v → Reducible F P v → Ascending C → Reduced P v C → Permits F out (reduction p v) C
  permits_reduction out p v P C kp b r asc red =
      (kp.0, b, subst (λ x. Reducible F x v) (sym kp.1) r, (asc, subst (λ x. Reduced x v C) (sym kp.1) red))

  -- two lines resolved upon an unnegated literal
  pub permits_join :
      (out : List (List ℕ)) (p q : ℕ) (P Q C : List ℕ) (l : ℕ) → 2 * var l ≡ l → Kept out p (sorted P) → Kept out q (sorted Q) → Variable F.n (var l) → quantifier_of F (var l) ≡ 1 →
      l ∈ P → neg l ∈ Q → Joins P Q l C → TautologyFree C → Permits F out (resolution p q (var l)) (sorted C)
  permits_join out p q P Q C l e kp kq b one hp hq joins free =
      permits_resolution out p q (var l) (sorted P) (sorted Q) (sorted C) kp kq b
      (one, subst (λ z. z ∈ sorted P) (sym e) (in_sorted l P hp), subst (λ z. z ∈ sorted Q) (ap neg (sym e) ∙ neg_double (var l)) (in_sorted (neg l) Q hq)) (asc_sorted C)
      (sorted_resolvent P Q C (var l) (subst (λ z. Joins P Q z C) (sym e) joins)) (sorted_free C free)

  -- a line reduced by the variable of a literal
  pub permits_drop :
      (out : List (List ℕ)) (p : ℕ) (P C : List ℕ) (k : ℕ) → Kept out p (sorted P) → Variable F.n (var k) → quantifier_of F (var k) ≡ 2 → k ∈ P → Innermost F P (var k) →
      Reduced P (var k) C → Permits F out (reduction p (var k)) (sorted C)
  permits_drop out p P C k kp b two i inner red =
      permits_reduction out p (var k) (sorted P) (sorted C) kp b (two, over (same_var k (2 * var k) (omega arith)), λ l j e. inner l (from_sorted l P j) e) (asc_sorted C)
      (sorted_reduced P C (var k) red)
    where
      over : (k ≡ 2 * var k) ⊎ (k ≡ neg (2 * var k)) → (2 * var k ∈ sorted P) ⊎ (2 * var k + 1 ∈ sorted P)
      over (inl e) = inl (subst (λ z. z ∈ sorted P) e (in_sorted k P i))
      over (inr e) = inr (subst (λ z. z ∈ sorted P) (e ∙ neg_double (var k)) (in_sorted k P i))

  -- clause j, as a set
  pub permits_axiom : (out : List (List ℕ)) (j : ℕ) (C : List ℕ) → j < length F.clauses → Same C (clause_of F j) → TautologyFree C → Permits F out (axiom_line j) (sorted C)
  permits_axiom out j C lt same free =
      (lt, (asc_sorted C, λ l. (λ i. (same l).0 (from_sorted l C i), λ i. in_sorted l C ((same l).1 i))), λ t. sorted_free C free t.0 t.1 t.2)

module _ (F : Meaning) (formed : Formed F) where
  abbrev pub Fine : List ℕ → Type 0
  Fine C = Tree F C × Ascending C

  abbrev pub AllFine : List (List ℕ) → Type 0
  AllFine kept = (D : List ℕ) → D ∈ kept → Fine D

  cut_tree : (P C : List ℕ) (v k : ℕ) → var k ≡ v → k ∈ P → Tree F P → Variable F.n v → quantifier_of F v ≡ 2 → Innermost F P v → Reduced P v C → Tree F C
  cut_tree P C v k e m t b q inner red =
      drop {P = P} k t (subst (Variable F.n) (sym e) b) (ap (quantifier_of F) e ∙ q) m (subst (Innermost F P) (sym e) inner) (subst (λ x. Reduced P x C) (sym e) red)

  pub permits_fine : (kept : List (List ℕ)) (line : Line) (C : List ℕ) → AllFine kept → Permits F kept line C → Fine C
  permits_fine kept (axiom_line j) C all (lt, (asc, same), free) =
      (leaf (clause_of F j) (get_or_in F.clauses j [] lt) same (λ l m n. free (l, m, n)), asc)
  permits_fine kept (resolution p q v) C all (hp, hq, b, (e, m, n), (asc, res), free) = (
    join {P = line_of kept p} {Q = line_of kept q} (2 * v) (all (line_of kept p) (get_or_in kept p [] hp)).0 (all (line_of kept q) (get_or_in kept q [] hq)).0
        (subst (Variable F.n) (sym over) b) (ap (quantifier_of F) over ∙ e) m (subst (λ x. x ∈ line_of kept q) (sym (neg_double v)) n)
        (joins_from (line_of kept p) (line_of kept q) v C res) (λ l i j. free (l, i, j)),
    asc,
  )
    where
      over : var (2 * v) ≡ v
      over = omega arith
  permits_fine kept (reduction p v) C all (hp, b, (q, m, inner), (asc, red)) =
      (⊎_elim (λ h. cut_tree P C v (2 * v) (omega arith) h t b q inner red) (λ h. cut_tree P C v (2 * v + 1) (omega arith) h t b q inner red) m, asc)
    where
      P : List ℕ
      P = line_of kept p

      t : Tree F (line_of kept p)
      t = (all (line_of kept p) (get_or_in kept p [] hp)).0
  permits_fine kept (symmetry p card) C all (hp, symm, (asc, img)) =
      (tree_same F C (image F F (act card) (symmetry_maps F formed card symm) (all (line_of kept p) (get_or_in kept p [] hp)).0) (λ l. ((img l).1, (img l).0)), asc)

  pub push_fine : (kept : List (List ℕ)) (C : List ℕ) → AllFine kept → Fine C → AllFine (kept ++ (C ∷ []))
  push_fine kept C all f D m = ⊎_elim (all D) (⊎_elim (λ e. subst Fine (sym e) f) (λ k. absurd k)) (in_append D kept (C ∷ []) m)

  pub follows_fine : (kept : List (List ℕ)) (ls : List Line) (Cs : List (List ℕ)) → AllFine kept → Follows F kept ls Cs → AllFine Cs
  follows_fine kept [] [] all r D m = absurd m
  follows_fine kept [] (C ∷ Cs) all r D m = absurd r
  follows_fine kept (l ∷ ls) [] all r D m = absurd r
  follows_fine kept (l ∷ ls) (C ∷ Cs) all (g, r) D m =
      let f : Fine C = permits_fine kept l C all g in
      ⊎_elim (λ e. subst Fine (sym e) f) (λ i. follows_fine (kept ++ (C ∷ [])) ls Cs (push_fine kept C all f) r D i) m

  pub derivable_fine : (C : List ℕ) → Derivable F C → Fine C
  derivable_fine C (ls, Cs, r, i) = follows_fine [] ls Cs (λ D m. absurd m) r C i

  -- from trees to lines

  -- lines that end in C, of which the first follows the clauses kept
  record Made (kept : List (List ℕ)) (C : List ℕ) : Type 0 where
    lines : List Line
    front : List (List ℕ)
    follows : Follows F kept lines (front ++ (C ∷ []))
    plain : AllByRecursion Plain lines

  two_lines :
      (P Q C : List ℕ) (line : ℕ → ℕ → Line) → ((p q : ℕ) → Plain (line p q)) →
      ((out : List (List ℕ)) (p q : ℕ) → Kept out p P → Kept out q Q → Permits F out (line p q) C) →
      ((k : List (List ℕ)) → Made k P) → ((k : List (List ℕ)) → Made k Q) → (kept : List (List ℕ)) → Made kept C
  two_lines P Q C line plain permit first second kept = record {
    lines = a.lines ++ (b.lines ++ (last ∷ []));
    front = new ++ newer;
    follows = subst (Follows F kept (a.lines ++ (b.lines ++ (last ∷ [])))) (sym (append_assoc new newer (C ∷ [])))
        (follows_append F kept a.lines (b.lines ++ (last ∷ [])) new (newer ++ (C ∷ [])) a.follows
        (follows_append F mid b.lines (last ∷ []) newer (C ∷ []) b.follows
        (permit (mid ++ newer) (length kept + length a.front) (length mid + length b.front) (kept_more mid newer (length kept + length a.front) P (kept_last kept a.front P)) (kept_last mid b.front Q), tt)));
    plain = all_append Plain a.lines (b.lines ++ (last ∷ [])) a.plain (all_append Plain b.lines (last ∷ []) b.plain (plain (length kept + length a.front) (length mid + length b.front), tt));
  }
    where
      a : Made kept P
      a = first kept

      new : List (List ℕ)
      new = a.front ++ (P ∷ [])

      mid : List (List ℕ)
      mid = kept ++ new

      b : Made mid Q
      b = second mid

      newer : List (List ℕ)
      newer = b.front ++ (Q ∷ [])

      last : Line
      last = line (length kept + length a.front) (length mid + length b.front)

  one_line :
      (P C : List ℕ) (line : ℕ → Line) → ((p : ℕ) → Plain (line p)) → ((out : List (List ℕ)) (p : ℕ) → Kept out p P → Permits F out (line p) C) →
      ((k : List (List ℕ)) → Made k P) → (kept : List (List ℕ)) → Made kept C
  one_line P C line plain permit first kept = record {
    lines = a.lines ++ (last ∷ []);
    front = new;
    follows = follows_append F kept a.lines (last ∷ []) new (C ∷ []) a.follows (permit (kept ++ new) (length kept + length a.front) (kept_last kept a.front P), tt);
    plain = all_append Plain a.lines (last ∷ []) a.plain (plain (length kept + length a.front), tt);
  }
    where
      a : Made kept P
      a = first kept

      new : List (List ℕ)
      new = a.front ++ (P ∷ [])

      last : Line
      last = line (length kept + length a.front)

  even_join :
      (P Q C : List ℕ) (l : ℕ) → 2 * var l ≡ l → Variable F.n (var l) → quantifier_of F (var l) ≡ 1 → l ∈ P → neg l ∈ Q → Joins P Q l C → TautologyFree C →
      ((k : List (List ℕ)) → Made k (sorted P)) → ((k : List (List ℕ)) → Made k (sorted Q)) → (kept : List (List ℕ)) → Made kept (sorted C)
  even_join P Q C l e b q hp hq joins free =
      two_lines (sorted P) (sorted Q) (sorted C) (λ x y. resolution x y (var l)) (λ x y. tt) (λ out x y kx ky. permits_join F out x y P Q C l e kx ky b q hp hq joins free)

  make : {C : List ℕ} → Tree F C → (kept : List (List ℕ)) → Made kept (sorted C)
  make (leaf {C} D m same free) kept =
      let r : (j : ℕ) × (j < length F.clauses) × (get_or F.clauses j [] ≡ D) = place_of D F.clauses [] m in
      record {
        lines = axiom_line r.0 ∷ [];
        front = [];
        follows = (permits_axiom F kept r.0 C r.1 (subst (Same C) (sym r.2) same) free, tt);
        plain = (tt, tt);
      }
  make (join {C} {P} {Q} l t u b q m n joins free) kept =
      ⊎_elim (λ h. even_join P Q C l (omega arith) b q m n joins free (λ k. make t k) (λ k. make u k) kept)
      (λ h. let e : 2 * var (neg l) ≡ neg l = omega arith in
      even_join Q P C (neg l) e (subst (Variable F.n) (sym (var_neg l)) b) (ap (quantifier_of F) (var_neg l) ∙ q) n (subst (λ z. z ∈ P) (sym (neg_neg l)) m)
      (joins_flip P Q C l joins) free (λ k. make u k) (λ k. make t k) kept)
      (neg_is l)
  make (drop {C} {P} k t b q m inner drops) kept =
      one_line (sorted P) (sorted C) (λ x. reduction x (var k)) (λ x. tt) (λ out x kx. permits_drop F out x P C k kx b q m inner drops) (λ j. make t j) kept

  pub plainly : (C : List ℕ) → Fine C → DerivablePlainly F C
  plainly C f =
      let r : Made [] C = subst (Made []) (sorted_asc C f.1) (make f.0 []) in
      (r.lines, r.front ++ (C ∷ []), r.follows, r.plain, in_right C r.front (C ∷ []) (inl refl))
