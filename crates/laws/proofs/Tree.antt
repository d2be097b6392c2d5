-- Derivations without symmetry lines as trees over clauses read as sets, whose pivot is a literal of either sign.
use Rattle.std.proofs.Common.{◌≡◌, ℕ, ◌<◌, ◌⊎◌, ◌↔◌, List, map, sym, ap, ◌∙◌, subst, inl, inr, ⊎_elim, arith}
use Rattle.calculus.specs.Sets.{◌∈◌, Same}
use Rattle.calculus.specs.Literals.{var, neg}
use Rattle.calculus.specs.Meaning.{Meaning, Formed, Variable, level_of, quantifier_of}
use Rattle.laws.specs.Clauses.{Innermost, Reduced}
use Rattle.laws.specs.Cards.{Card, act, Symmetry}
use Rattle.laws.proofs.Sets.{in_map, from_map, var_neg, same_var}
use Rattle.laws.proofs.Formedness.{same_kind, level_variable}
use Rattle.laws.proofs.Exchange.{act_negates, act_apart, act_levels}

-- no variable with both signs
abbrev pub TautologyFree : List ℕ → Type 0
TautologyFree C = (l : ℕ) → l ∈ C → neg l ∈ C → ⊥

-- the literals of a resolvent on l
abbrev pub Joins : List ℕ → List ℕ → ℕ → List ℕ → Type 0
Joins P Q l C = (m : ℕ) → (m ∈ C) ↔ (((m ∈ P) × (m ≡ l → ⊥)) ⊎ ((m ∈ Q) × (m ≡ neg l → ⊥)))

pub data Tree (F : Meaning) : List ℕ → Type 0 where
  leaf : {C : List ℕ} (D : List ℕ) → D ∈ F.clauses → Same C D → TautologyFree C → Tree F C
  join : {C P Q : List ℕ} (l : ℕ) → Tree F P → Tree F Q → Variable F.n (var l) → quantifier_of F (var l) ≡ 1 → l ∈ P → neg l ∈ Q → Joins P Q l C → TautologyFree C → Tree F C
  drop : {C P : List ℕ} (k : ℕ) → Tree F P → Variable F.n (var k) → quantifier_of F (var k) ≡ 2 → k ∈ P → Innermost F P (var k) → Reduced P (var k) C → Tree F C

pub tree_free : (F : Meaning) {C : List ℕ} → Tree F C → TautologyFree C
tree_free F (leaf D m same free) = free
tree_free F (join l t u b q m n joins free) = free
tree_free F (drop k t b q m inner drops) = λ l i j. tree_free F t l ((drops l).0 i).0 ((drops (neg l)).0 j).0

-- s takes the rules of F to those of G
pub record Maps (F G : Meaning) (s : ℕ → ℕ) : Type 0 where
  pub negates : (l : ℕ) → s (neg l) ≡ neg (s l)
  pub apart : (l m : ℕ) → s l ≡ s m → l ≡ m
  pub bounds : (l : ℕ) → Variable F.n (var l) → Variable G.n (var (s l))
  pub levels : (l : ℕ) → level_of G (var (s l)) ≡ level_of F (var l)
  pub quants : (l : ℕ) → quantifier_of G (var (s l)) ≡ quantifier_of F (var l)
  pub among : (C : List ℕ) → C ∈ F.clauses → (D : List ℕ) × (D ∈ G.clauses) × Same (map s C) D

pub symmetry_maps : (F : Meaning) → Formed F → (card : Card) → Symmetry F card → Maps F F (act card)
symmetry_maps F formed card y = record {
  negates = act_negates card;
  apart = act_apart card;
  bounds = λ l. level_variable F formed (var l) (var (act card l)) (act_levels F card y.admissible l);
  levels = act_levels F card y.admissible;
  quants = λ l. same_kind F formed (var (act card l)) (var l) (act_levels F card y.admissible l);
  among = y.carries;
}

-- a symmetry takes a tree to a tree
module _ (F G : Meaning) (s : ℕ → ℕ) (sym_s : Maps F G s) where
  pub image_free : (C : List ℕ) → TautologyFree C → TautologyFree (map s C)
  image_free C free l m n =
      let a : (x : ℕ) × (x ∈ C) × (l ≡ s x) = from_map s l C m in
      let b : (x : ℕ) × (x ∈ C) × (neg l ≡ s x) = from_map s (neg l) C n in
      let e : b.0 ≡ neg a.0 = sym_s.apart b.0 (neg a.0) (sym b.2 ∙ (ap neg a.2 ∙ sym (sym_s.negates a.0))) in
      free a.0 a.1 (subst (λ x. x ∈ C) e b.1)

  image_var : (l m : ℕ) → var (s l) ≡ var (s m) → var l ≡ var m
  image_var l m e =
      ⊎_elim (λ h. ap var (sym_s.apart l m h)) (λ h. ap var (sym_s.apart l (neg m) (h ∙ sym (sym_s.negates m))) ∙ var_neg m) (same_var (s l) (s m) e)

  var_image : (l m : ℕ) → var l ≡ var m → var (s l) ≡ var (s m)
  var_image l m e =
      ⊎_elim (λ h. ap (λ x. var (s x)) h) (λ h. ap (λ x. var (s x)) h ∙ (ap var (sym_s.negates m) ∙ var_neg (s m))) (same_var l m e)

  -- what is in all of one clause's images is in the other's
  image_within : (C D : List ℕ) → ((x : ℕ) → x ∈ C → s x ∈ D) → (l : ℕ) → l ∈ map s C → l ∈ D
  image_within C D h l i = let a : (x : ℕ) × (x ∈ C) × (l ≡ s x) = from_map s l C i in subst (λ x. x ∈ D) (sym a.2) (h a.0 a.1)

  -- the images of the same sets are the same, also where a matching clause stands for one
  pub image_same : (C D E : List ℕ) → Same C D → Same (map s D) E → Same (map s C) E
  image_same C D E same match l = (
    image_within C E (λ x i. (match (s x)).0 (in_map s x D ((same x).0 i))) l,
    λ i. image_within D (map s C) (λ x j. in_map s x C ((same x).1 j)) l ((match l).1 i),
  )

  pub image_joins : (P Q C : List ℕ) (l : ℕ) → Joins P Q l C → Joins (map s P) (map s Q) (s l) (map s C)
  image_joins P Q C l joins k = (
    λ h. let a : (x : ℕ) × (x ∈ C) × (k ≡ s x) = from_map s k C h in
        ⊎_elim (λ g. inl (subst (λ x. x ∈ map s P) (sym a.2) (in_map s a.0 P g.0), λ e. g.1 (sym_s.apart a.0 l (sym a.2 ∙ e))))
        (λ g. inr (subst (λ x. x ∈ map s Q) (sym a.2) (in_map s a.0 Q g.0), λ e. g.1 (sym_s.apart a.0 (neg l) (sym a.2 ∙ (e ∙ sym (sym_s.negates l))))))
        ((joins a.0).0 a.1),
    ⊎_elim
        (λ h. let a : (x : ℕ) × (x ∈ P) × (k ≡ s x) = from_map s k P h.0 in
        subst (λ x. x ∈ map s C) (sym a.2) (in_map s a.0 C ((joins a.0).1 (inl (a.1, λ e. h.1 (a.2 ∙ ap s e))))))
        (λ h. let a : (x : ℕ) × (x ∈ Q) × (k ≡ s x) = from_map s k Q h.0 in
        subst (λ x. x ∈ map s C) (sym a.2) (in_map s a.0 C ((joins a.0).1 (inr (a.1, λ e. h.1 (a.2 ∙ (ap s e ∙ sym_s.negates l))))))),
  )

  pub image_innermost : (P : List ℕ) (k : ℕ) → Innermost F P (var k) → Innermost G (map s P) (var (s k))
  image_innermost P k inner l h e =
      let a : (x : ℕ) × (x ∈ P) × (l ≡ s x) = from_map s l P h in
      let i : level_of F (var a.0) < level_of F (var k) = inner a.0 a.1 (sym (sym_s.quants a.0) ∙ (ap (λ x. quantifier_of G (var x)) (sym a.2) ∙ e)) in
      let j : level_of G (var l) ≡ level_of F (var a.0) = ap (λ x. level_of G (var x)) a.2 ∙ sym_s.levels a.0 in
      let j' : level_of G (var (s k)) ≡ level_of F (var k) = sym_s.levels k in
      omega arith

  pub image_reduced : (P C : List ℕ) (k : ℕ) → Reduced P (var k) C → Reduced (map s P) (var (s k)) (map s C)
  image_reduced P C k drops l = (
    λ h. let a : (x : ℕ) × (x ∈ C) × (l ≡ s x) = from_map s l C h in
        let d : (a.0 ∈ P) × (var a.0 ≡ var k → ⊥) = (drops a.0).0 a.1 in
        (subst (λ x. x ∈ map s P) (sym a.2) (in_map s a.0 P d.0), λ e. d.1 (image_var a.0 k (ap var (sym a.2) ∙ e))),
    λ h. let a : (x : ℕ) × (x ∈ P) × (l ≡ s x) = from_map s l P h.0 in
        subst (λ x. x ∈ map s C) (sym a.2) (in_map s a.0 C ((drops a.0).1 (a.1, λ e. h.1 (ap var a.2 ∙ var_image a.0 k e)))),
  )

  pub image_neg : (Q : List ℕ) (l : ℕ) → neg l ∈ Q → neg (s l) ∈ map s Q
  image_neg Q l i = subst (λ x. x ∈ map s Q) (sym_s.negates l) (in_map s (neg l) Q i)

  pub image : {C : List ℕ} → Tree F C → Tree G (map s C)
  image (leaf {C} D m same free) =
      let r : (E : List ℕ) × (E ∈ G.clauses) × Same (map s D) E = sym_s.among D m in
      leaf r.0 r.1 (image_same C D r.0 same r.2) (image_free C free)
  image (join {C} {P} {Q} l t u b q m n joins free) =
      join (s l) (image t) (image u) (sym_s.bounds l b) (sym_s.quants l ∙ q) (in_map s l P m) (image_neg Q l n) (image_joins P Q C l joins) (image_free C free)
  image (drop {C} {P} k t b q m inner drops) =
      drop (s k) (image t) (sym_s.bounds k b) (sym_s.quants k ∙ q) (in_map s k P m) (image_innermost P k inner) (image_reduced P C k drops)
