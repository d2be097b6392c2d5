-- The images of lines under a symmetry are lines of a derivation.
use Rattle.std.proofs.Common.{◌≡◌, ℕ, zero, suc, ◌+◌, ◌*◌, ◌%◌, ◌<◌, eqb, List, [], ◌∷◌, ◌++◌, map, length, get_or, take, sym, ap, ◌∙◌, subst, ⊎_elim, append_assoc, arith, length-append}
use Rattle.std.specs.List.{AllByRecursion}
use Rattle.std.proofs.lemmas.Bool.{cond_both, eqb-true, eqb-false, both_ways}
use Rattle.std.proofs.lemmas.List.{append-nil, get_or-append-add, get_or-map, get_or-take, length-map, length-take-le, map_push}
use Rattle.calculus.specs.Sets.{◌∈◌, Same}
use Rattle.calculus.specs.Literals.{var, neg}
use Rattle.calculus.specs.Meaning.{Meaning, Formed, Variable, quantifier_of, clause_of}
use Rattle.laws.specs.Clauses.{Reduced, Innermost}
use Rattle.laws.specs.Cards.{Card, image_of, act, Among, Symmetry}
use Rattle.laws.specs.Lines.{Line, axiom_line, resolution, reduction, symmetry, Plain}
use Rattle.laws.specs.Derivations.{line_of, Gives, Permits, Follows}
use Rattle.laws.specs.Claims.{same}
use Rattle.laws.specs.Images.{matching, image_line, image_lines, image_clause, image_clauses}
use Rattle.laws.specs.Theorems.{ImagesDerive}
use Rattle.laws.proofs.Sets.{get_or_in, in_map, neg_is, neg_neg, var_neg, neg_double}
use Rattle.laws.proofs.Ascending.{asc_sorted}
use Rattle.laws.proofs.Exchange.{act_double, act_negates}
use Rattle.laws.proofs.Rules.{sorted_same}
use Rattle.laws.proofs.Tree.{Maps, symmetry_maps, Joins, TautologyFree, image_free, image_same, image_joins, image_innermost, image_reduced, image_neg}
use Rattle.laws.proofs.Lines.{Kept, joins_from, joins_flip, permits_axiom, permits_join, permits_drop, follows_length}
use Rattle.laws.proofs.Deciding.{same_is}

-- a clause that matches is found
found : (Ds : List (List ℕ)) (C D : List ℕ) → D ∈ Ds → Same C D → (matching Ds C < length Ds) × Same C (get_or Ds (matching Ds C) [])
found [] C D i h = absurd i
found (E ∷ Ds) C D i h =
    cond_both (same C E) 0 (suc (matching Ds C)) (λ k. (k < length (E ∷ Ds)) × Same C (get_or (E ∷ Ds) k [])) (λ e. (omega arith, (same_is C E).0 e))
    (λ e. let r : (matching Ds C < length Ds) × Same C (get_or Ds (matching Ds C) []) = found Ds C D (⊎_elim (λ f. absurd (both_ways (same C E) e ((same_is C E).1 (subst (Same C) f h)))) (λ j. j) i) h in
    (omega arith, r.1))

take_follows : (m : Meaning) (kept : List (List ℕ)) (k : ℕ) (ls : List Line) (Cs : List (List ℕ)) → Follows m kept ls Cs → Follows m kept (take k ls) (take k Cs)
take_follows m kept zero ls Cs r = tt
take_follows m kept (suc k) [] [] r = tt
take_follows m kept (suc k) [] (C ∷ Cs) r = absurd r
take_follows m kept (suc k) (l ∷ ls) [] r = absurd r
take_follows m kept (suc k) (l ∷ ls) (C ∷ Cs) r = (r.0, take_follows m (kept ++ (C ∷ [])) k ls Cs r.1)

all_take : {A : Type 0} (P : A → Type 0) (k : ℕ) (xs : List A) → AllByRecursion P xs → AllByRecursion P (take k xs)
all_take P zero xs a = tt
all_take P (suc k) [] a = tt
all_take P (suc k) (x ∷ xs) a = (a.0, all_take P k xs a.1)

module _ (m : Meaning) (card : Card) where
  image_plain : (shift : ℕ) (l : Line) → Plain l → Plain (image_line m card shift l)
  image_plain shift (axiom_line j) w = tt
  image_plain shift (resolution p q v) w =
      cond_both (eqb (image_of card v % 2) 0) (resolution (shift + p) (shift + q) (var (image_of card v))) (resolution (shift + q) (shift + p) (var (image_of card v))) Plain (λ e. tt) (λ e. tt)
  image_plain shift (reduction p v) w = tt
  image_plain shift (symmetry p other) w = absurd w

  images_plain : (shift : ℕ) (ls : List Line) → AllByRecursion Plain ls → AllByRecursion Plain (image_lines m card shift ls)
  images_plain shift [] a = tt
  images_plain shift (l ∷ ls) a = (image_plain shift l a.0, images_plain shift ls a.1)

  module _ (formed : Formed m) (sym_m : Symmetry m card) where
    maps : Maps m m (act card)
    maps = symmetry_maps m formed card sym_m

    kept_image : (kept done : List (List ℕ)) (p : ℕ) → p < length done → Kept (kept ++ image_clauses card done) (length kept + p) (image_clause card (line_of done p))
    kept_image kept done p lt = (
      omega (arith, length-append kept (image_clauses card done), length-map done (image_clause card)),
      get_or-append-add kept (image_clauses card done) p [] ∙ get_or-map (image_clause card) done p [] [] lt,
    )

    permits_image :
        (kept done : List (List ℕ)) (l : Line) (C : List ℕ) → Plain l → Permits m done l C → Permits m (kept ++ image_clauses card done) (image_line m card (length kept) l) (image_clause card C)
    permits_image kept done (axiom_line j) C w (lt, (asc, same_j), free) =
        let D : List ℕ = clause_of m j in
        let r : Among m (map (act card) D) = sym_m.carries D (get_or_in m.clauses j [] lt) in
        let k : ℕ = matching m.clauses (map (act card) D) in
        let f : (k < length m.clauses) × Same (map (act card) D) (clause_of m k) = found m.clauses (map (act card) D) r.0 r.1 r.2 in
        permits_axiom m (kept ++ image_clauses card done) k (map (act card) C) f.0 (image_same m m (act card) maps C D (clause_of m k) same_j f.1)
        (image_free m m (act card) maps C (λ l i n. free (l, i, n)))
    permits_image kept done (resolution p q v) C w (hp, hq, b, (one, i, n), (asc, res), free) =
        cond_both (eqb (image_of card v % 2) 0) (resolution (length kept + p) (length kept + q) (var (image_of card v))) (resolution (length kept + q) (length kept + p) (var (image_of card v)))
        (λ l. Permits m out l (image_clause card C)) (λ e. subst (λ x. Permits m out (resolution (length kept + p) (length kept + q) (var x)) (image_clause card C)) (act_double card v) (even (eqb-true (image_of card v % 2) 0 e)))
        (λ e. subst (λ x. Permits m out (resolution (length kept + q) (length kept + p) (var x)) (image_clause card C)) (act_double card v) (odd (eqb-false (image_of card v % 2) 0 e)))
      where
        out : List (List ℕ)
        out = kept ++ image_clauses card done

        P : List ℕ
        P = line_of done p

        Q : List ℕ
        Q = line_of done q

        x : ℕ
        x = act card (2 * v)

        over : var (2 * v) ≡ v
        over = omega arith

        joins : Joins (map (act card) P) (map (act card) Q) x (map (act card) C)
        joins = image_joins m m (act card) maps P Q C (2 * v) (joins_from P Q v C res)

        bound : Variable m.n (var x)
        bound = maps.bounds (2 * v) (subst (Variable m.n) (sym over) b)

        kind : quantifier_of m (var x) ≡ 1
        kind = maps.quants (2 * v) ∙ (ap (quantifier_of m) over ∙ one)

        in_p : x ∈ map (act card) P
        in_p = in_map (act card) (2 * v) P i

        in_q : neg x ∈ map (act card) Q
        in_q = image_neg m m (act card) maps Q (2 * v) (subst (λ y. y ∈ Q) (sym (neg_double v)) n)

        image_c_free : TautologyFree (map (act card) C)
        image_c_free = image_free m m (act card) maps C (λ l h k. free (l, h, k))

        even : image_of card v % 2 ≡ 0 → Permits m out (resolution (length kept + p) (length kept + q) (var x)) (image_clause card C)
        even e =
            permits_join m out (length kept + p) (length kept + q) (map (act card) P) (map (act card) Q) (map (act card) C) x
            (let f : x ≡ image_of card v = act_double card v in omega arith) (kept_image kept done p hp) (kept_image kept done q hq) bound kind in_p in_q joins image_c_free

        odd : (image_of card v % 2 ≡ 0 → ⊥) → Permits m out (resolution (length kept + q) (length kept + p) (var x)) (image_clause card C)
        odd o =
            subst (λ y. Permits m out (resolution (length kept + q) (length kept + p) y) (image_clause card C)) (var_neg x)
            (permits_join m out (length kept + q) (length kept + p) (map (act card) Q) (map (act card) P) (map (act card) C) (neg x)
            (let f : x ≡ image_of card v = act_double card v in omega (arith, neg_is x)) (kept_image kept done q hq) (kept_image kept done p hp)
            (subst (Variable m.n) (sym (var_neg x)) bound) (ap (quantifier_of m) (var_neg x) ∙ kind) in_q (subst (λ y. y ∈ map (act card) P) (sym (neg_neg x)) in_p)
            (joins_flip (map (act card) P) (map (act card) Q) (map (act card) C) x joins) image_c_free)
    permits_image kept done (reduction p v) C w (hp, b, (two, i, inner), (asc, red)) =
        ⊎_elim (λ h. by (2 * v) (omega arith) h (ap var (act_double card v)))
        (λ h. by (2 * v + 1) (omega arith) h (ap (λ l. var (act card l)) (sym (neg_double v)) ∙ (ap var (act_negates card (2 * v)) ∙ (var_neg (act card (2 * v)) ∙ ap var (act_double card v))))) i
      where
        out : List (List ℕ)
        out = kept ++ image_clauses card done

        P : List ℕ
        P = line_of done p

        by : (k : ℕ) → var k ≡ v → k ∈ P → var (act card k) ≡ var (image_of card v) → Permits m out (reduction (length kept + p) (var (image_of card v))) (image_clause card C)
        by k e h f =
            subst (λ y. Permits m out (reduction (length kept + p) y) (image_clause card C)) f
            (permits_drop m out (length kept + p) (map (act card) P) (map (act card) C) (act card k) (kept_image kept done p hp) (maps.bounds k (subst (Variable m.n) (sym e) b))
            (maps.quants k ∙ (ap (quantifier_of m) e ∙ two)) (in_map (act card) k P h) (image_innermost m m (act card) maps P k (subst (Innermost m P) (sym e) inner))
            (image_reduced m m (act card) maps P C k (subst (λ y. Reduced P y C) (sym e) red)))
    permits_image kept done (symmetry p other) C w h = absurd w

    images_follow :
        (kept done : List (List ℕ)) (ls : List Line) (Cs : List (List ℕ)) → AllByRecursion Plain ls → Follows m done ls Cs →
        Follows m (kept ++ image_clauses card done) (image_lines m card (length kept) ls) (image_clauses card Cs)
    images_follow kept done [] [] w r = tt
    images_follow kept done [] (C ∷ Cs) w r = absurd r
    images_follow kept done (l ∷ ls) [] w r = absurd r
    images_follow kept done (l ∷ ls) (C ∷ Cs) w r = (
      permits_image kept done l C w.0 r.0,
      subst (λ x. Follows m x (image_lines m card (length kept) ls) (image_clauses card Cs))
          (ap (λ x. kept ++ x) (map_push (image_clause card) done C) ∙ sym (append_assoc kept (image_clauses card done) (image_clause card C ∷ [])))
          (images_follow kept (done ++ (C ∷ [])) ls Cs w.1 r.1),
    )

pub images_derive : ImagesDerive
images_derive m formed card symm lines clauses d plain p lt kept = record {
  follows = subst (λ x. Follows m x (image_lines m card (length kept) (take (suc p) lines)) (image_clauses card (take (suc p) clauses))) (append-nil kept)
      (images_follow m card formed symm kept [] (take (suc p) lines) (take (suc p) clauses) (all_take Plain (suc p) lines plain) (take_follows m [] (suc p) lines clauses d));
  plain = images_plain m card (length kept) (take (suc p) lines) (all_take Plain (suc p) lines plain);
  last = subst (Gives m clauses (symmetry p card)) (sym last_is) (asc_sorted (map (act card) (line_of clauses p)), sorted_same (map (act card) (line_of clauses p)));
}
  where
    last_is : line_of (image_clauses card (take (suc p) clauses)) p ≡ image_clause card (line_of clauses p)
    last_is =
        get_or-map (image_clause card) (take (suc p) clauses) p [] [] (omega (arith, length-take-le (suc p) clauses (omega (arith, follows_length m [] lines clauses d))))
        ∙ ap (image_clause card) (get_or-take (suc p) clauses p [] (omega arith))
