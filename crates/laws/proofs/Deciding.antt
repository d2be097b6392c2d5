-- The tests of a claim decide the conditions of its checks.
use Rattle.std.proofs.Common.{◌≡◌, ℕ, zero, suc, ◌+◌, ◌*◌, ◌<◌, ◌≤◌, Bool, true, false, not, ◌&&◌, ◌||◌, eqb, ltb, leb, ◌↔◌, List, [], ◌∷◌, ◌++◌, map, length, get_or, sym, refl, ap, ◌∙◌, subst, inl, inr, ⊎_elim, arith}
use mathlib.Core.Bool.{false≢true}
use Rattle.std.proofs.lemmas.Bool.{cases_eq, cases_Bool, cases_lt, and_parts, and_from, or_cases, or_left, or_right, eqb-true, eq-eqb, ne_eqb, leb-true, le-leb, lt-leb, ltb-true, lt-ltb, not-true, not_from_false, cond-true, cond-false, both_ways}
use Rattle.std.proofs.lemmas.List.{get_or_default}
use Rattle.calculus.specs.Sets.{◌∈◌, has, Same}
use Rattle.calculus.specs.Literals.{var, neg, Tautological}
use Rattle.calculus.specs.Meaning.{Meaning, Variable, level_of, quantifier_of, clause_of}
use Rattle.laws.specs.Clauses.{Innermost, Resolvable, Reducible}
use Rattle.laws.specs.Cards.{Card, image_of, act, Admissible, Among, Carries}
use Rattle.laws.specs.Lines.{Line, axiom_line, resolution, reduction, symmetry}
use Rattle.laws.specs.Derivations.{line_of, Gives, Permits}
use Rattle.laws.specs.Store.{Store, weight, weights, Room, Closed}
use Rattle.laws.specs.Checks.{Check, conditions, Hold, FailsWith}
use Rattle.laws.specs.Claims.{Answer, keeps, refused, every, some_of, every_place, given, tautology_free, variable, resolvable, innermost, reducible, admits, admissible, same, carries, is_empty, closed, room, rule_tests, first_failing, claim}
use Rattle.laws.specs.Verdicts.{Decided}
use Rattle.laws.specs.When.{checks_when, tests_when, claim_when, DecidedWhen}
use Rattle.laws.proofs.Sets.{has_true, has_from}
use Rattle.laws.proofs.Exchange.{stays, level_stays}
use Rattle.laws.proofs.Rules.{gives_given, gives_one}

-- tests over lists

pub every_true : {A : Type 0} (f : A → Bool) (xs : List A) (x : A) → every f xs ≡ true → x ∈ xs → f x ≡ true
every_true f [] x h m = absurd m
every_true f (y ∷ xs) x h (inl e) = ap f e ∙ (and_parts (f y) (every f xs) h).0
every_true f (y ∷ xs) x h (inr m) = every_true f xs x (and_parts (f y) (every f xs) h).1 m

every_from : {A : Type 0} (f : A → Bool) (xs : List A) → ((x : A) → x ∈ xs → f x ≡ true) → every f xs ≡ true
every_from f [] h = refl
every_from f (y ∷ xs) h = and_from (f y) (every f xs) (h y (inl refl)) (every_from f xs (λ x m. h x (inr m)))

some_true : {A : Type 0} (f : A → Bool) (xs : List A) → some_of f xs ≡ true → (x : A) × (x ∈ xs) × (f x ≡ true)
some_true f [] h = absurd (false≢true h)
some_true f (y ∷ xs) h =
    ⊎_elim (λ e. (y, inl refl, e)) (λ e. let r : (x : _) × (x ∈ xs) × (f x ≡ true) = some_true f xs e in (r.0, inr r.1, r.2)) (or_cases (f y) (some_of f xs) h)

some_from : {A : Type 0} (f : A → Bool) (xs : List A) (x : A) → x ∈ xs → f x ≡ true → some_of f xs ≡ true
some_from f [] x m h = absurd m
some_from f (y ∷ xs) x (inl e) h = or_left (f y) (some_of f xs) (ap f (sym e) ∙ h)
some_from f (y ∷ xs) x (inr m) h = or_right (f y) (some_of f xs) (some_from f xs x m h)

place_true : (f : ℕ → ℕ → Bool) (i : ℕ) (xs : List ℕ) (k d : ℕ) → every_place f i xs ≡ true → k < length xs → f (i + k) (get_or xs k d) ≡ true
place_true f i [] k d h lt = absurd (omega arith)
place_true f i (x ∷ xs) zero d h lt = subst (λ z. f z x ≡ true) (let e : i ≡ i + 0 = omega arith in e) (and_parts (f i x) (every_place f (i + 1) xs) h).0
place_true f i (x ∷ xs) (suc k) d h lt =
    subst (λ z. f z (get_or xs k d) ≡ true) (let e : i + 1 + k ≡ i + suc k = omega arith in e) (place_true f (i + 1) xs k d (and_parts (f i x) (every_place f (i + 1) xs) h).1 (omega arith))

place_from : (f : ℕ → ℕ → Bool) (i : ℕ) (xs : List ℕ) (d : ℕ) → ((k : ℕ) → k < length xs → f (i + k) (get_or xs k d) ≡ true) → every_place f i xs ≡ true
place_from f i [] d h = refl
place_from f i (x ∷ xs) d h =
    and_from (f i x) (every_place f (i + 1) xs) (subst (λ z. f z x ≡ true) (let e : i + 0 ≡ i = omega arith in e) (h 0 (omega arith)))
    (place_from f (i + 1) xs d (λ k lt. subst (λ z. f z (get_or xs k d) ≡ true) (let e : i + suc k ≡ i + 1 + k = omega arith in e) (h (suc k) (omega arith))))

-- each test and its condition

free_is : (C : List ℕ) → (tautology_free C ≡ true) ↔ (Tautological C → ⊥)
free_is C = (
  λ h t. both_ways (has (neg t.0) C) (not-true (has (neg t.0) C) (every_true (λ k. not (has (neg k) C)) C t.0 h t.1)) (has_from (neg t.0) C t.2),
  λ free. every_from (λ k. not (has (neg k) C)) C
      (λ l m. ⊎_elim (λ e. absurd (free (l, m, has_true (neg l) C e))) (λ e. not_from_false (has (neg l) C) e) (cases_Bool (has (neg l) C))),
)

below_is : (a b : ℕ) → (ltb a b ≡ true) ↔ (a < b)
below_is a b = (ltb-true a b, lt-ltb a b)

variable_is : (m : Meaning) (v : ℕ) → (variable m v ≡ true) ↔ Variable m.n v
variable_is m v = (
  λ h. let p : (leb 1 v ≡ true) × (leb v m.n ≡ true) = and_parts (leb 1 v) (leb v m.n) h in (leb-true 1 v p.0, leb-true v m.n p.1),
  λ b. and_from (leb 1 v) (leb v m.n) (le-leb 1 v b.0) (le-leb v m.n b.1),
)

resolvable_is : (m : Meaning) (P Q : List ℕ) (v : ℕ) → (resolvable m P Q v ≡ true) ↔ Resolvable m P Q v
resolvable_is m P Q v = (
  λ h. let x : _ × _ = and_parts (eqb (quantifier_of m v) 1) (has (2 * v) P && has (2 * v + 1) Q) h in
      let y : _ × _ = and_parts (has (2 * v) P) (has (2 * v + 1) Q) x.1 in
      (eqb-true (quantifier_of m v) 1 x.0, has_true (2 * v) P y.0, has_true (2 * v + 1) Q y.1),
  λ r. and_from (eqb (quantifier_of m v) 1) (has (2 * v) P && has (2 * v + 1) Q) (eq-eqb (quantifier_of m v) 1 r.0)
      (and_from (has (2 * v) P) (has (2 * v + 1) Q) (has_from (2 * v) P r.1) (has_from (2 * v + 1) Q r.2)),
)

module _ (m : Meaning) (P : List ℕ) (v : ℕ) where
  existential : ℕ → Bool
  existential l = eqb (quantifier_of m (var l)) 1

  shallow : ℕ → Bool
  shallow l = ltb (level_of m (var l)) (level_of m v)

  innermost_is : (innermost m P v ≡ true) ↔ Innermost m P v
  unfolding existential shallow
  innermost_is = (
    λ h l i e. ⊎_elim (λ k. absurd (both_ways (existential l) (not-true (existential l) k) (eq-eqb (quantifier_of m (var l)) 1 e)))
        (λ k. ltb-true (level_of m (var l)) (level_of m v) k)
        (or_cases (not (existential l)) (shallow l) (every_true (λ k. not (existential k) || shallow k) P l h i)),
    λ h. every_from (λ k. not (existential k) || shallow k) P
        (λ l i. ⊎_elim (λ e. or_right (not (existential l)) (shallow l) (lt-ltb (level_of m (var l)) (level_of m v) (h l i e)))
        (λ n. or_left (not (existential l)) (shallow l) (not_from_false (existential l) (ne_eqb (quantifier_of m (var l)) 1 n))) (cases_eq (quantifier_of m (var l)) 1)),
  )

  has_either : Bool
  has_either = has (2 * v) P || has (2 * v + 1) P

  reducible_is : (reducible m P v ≡ true) ↔ Reducible m P v
  unfolding has_either
  reducible_is = (
    λ h. let x : _ × _ = and_parts (eqb (quantifier_of m v) 2) (has_either && innermost m P v) h in
        let y : _ × _ = and_parts has_either (innermost m P v) x.1 in (
          eqb-true (quantifier_of m v) 2 x.0,
          ⊎_elim (λ k. inl (has_true (2 * v) P k)) (λ k. inr (has_true (2 * v + 1) P k)) (or_cases (has (2 * v) P) (has (2 * v + 1) P) y.0),
          innermost_is.0 y.1,
        ),
    λ r. and_from (eqb (quantifier_of m v) 2) (has_either && innermost m P v) (eq-eqb (quantifier_of m v) 2 r.0)
        (and_from has_either (innermost m P v)
        (⊎_elim (λ k. or_left (has (2 * v) P) (has (2 * v + 1) P) (has_from (2 * v) P k)) (λ k. or_right (has (2 * v) P) (has (2 * v + 1) P) (has_from (2 * v + 1) P k)) r.1)
        (innermost_is.1 r.2)),
  )

pub same_is : (C D : List ℕ) → (same C D ≡ true) ↔ Same C D
same_is C D = (
  λ h l. let p : _ × _ = and_parts (every (λ k. has k D) C) (every (λ k. has k C) D) h in
      (λ m. has_true l D (every_true (λ k. has k D) C l p.0 m), λ m. has_true l C (every_true (λ k. has k C) D l p.1 m)),
  λ h. and_from (every (λ k. has k D) C) (every (λ k. has k C) D) (every_from (λ k. has k D) C (λ l m. has_from l D ((h l).0 m)))
      (every_from (λ k. has k C) D (λ l m. has_from l C ((h l).1 m))),
)

pub carries_is : (m : Meaning) (card : Card) → (carries m card ≡ true) ↔ Carries m card
carries_is m card = (
  λ h C i. let r : (D : List ℕ) × (D ∈ m.clauses) × (same (map (act card) C) D ≡ true) =
      some_true (same (map (act card) C)) m.clauses (every_true (λ E. some_of (same (map (act card) E)) m.clauses) m.clauses C h i) in
      (r.0, r.1, (same_is (map (act card) C) r.0).0 r.2),
  λ h. every_from (λ E. some_of (same (map (act card) E)) m.clauses) m.clauses
      (λ C i. let r : Among m (map (act card) C) = h C i in some_from (same (map (act card) C)) m.clauses r.0 r.1 ((same_is (map (act card) C) r.0).1 r.2)),
)

module _ (m : Meaning) (card : Card) where
  abbrev at : ℕ → ℕ
  at v = image_of card v

  passes_at : (v : ℕ) → v ≤ 512 → admissible m card ≡ true → admits m v (at v) ≡ true
  passes_at v le h =
      subst (λ x. admits m x (at v) ≡ true) (let e : 0 + v ≡ v = omega arith in e) (place_true (admits m) 0 card.images v (2 * v) h (omega (arith, card.long)))

  admits_inside : (v x : ℕ) → v ≤ m.n → admits m v x ≡ eqb (level_of m (var x)) (level_of m v)
  admits_inside v x le = cond-true (leb v m.n) (eqb (level_of m (var x)) (level_of m v)) (eqb x (2 * v)) (le-leb v m.n le)

  admits_outside : (v x : ℕ) → m.n < v → admits m v x ≡ eqb x (2 * v)
  admits_outside v x lt = cond-false (leb v m.n) (eqb (level_of m (var x)) (level_of m v)) (eqb x (2 * v)) (lt-leb v m.n lt)

  pub admissible_is : (admissible m card ≡ true) ↔ Admissible m card
  admissible_is = (
    λ h. record {
      fixes = λ v lt le. eqb-true (at v) (2 * v) (sym (admits_outside v (at v) lt) ∙ passes_at v le h);
      levels = λ v b. ⊎_elim (λ past. ap (level_of m) (let e : var (at v) ≡ v = omega (arith, stays card v (λ w. omega (arith, w.1))) in e))
          (λ le. eqb-true (level_of m (var (at v))) (level_of m v) (sym (admits_inside v (at v) b.1) ∙ passes_at v le h)) (cases_lt 512 v);
    },
    λ fits. place_from (admits m) 0 card.images 0
        (λ v lt. subst (λ z. admits m z (get_or card.images v 0) ≡ true) (let e : v ≡ 0 + v = omega arith in e)
        (subst (λ x. admits m v x ≡ true) (get_or_default card.images v (2 * v) 0 lt)
        (⊎_elim (λ past. admits_outside v (at v) past ∙ eq-eqb (at v) (2 * v) (fits.fixes v past (omega (arith, card.long))))
        (λ le. admits_inside v (at v) le ∙ eq-eqb (level_of m (var (at v))) (level_of m v) (level_stays m card fits v)) (cases_lt m.n v)))),
  )

empty_is : (C : List ℕ) → is_empty C ≡ true → C ≡ []
empty_is [] h = refl
empty_is (l ∷ C) h = absurd (false≢true h)

pub closed_is : (kept : List (List ℕ)) → (closed kept ≡ true) ↔ Closed kept
closed_is kept = (
  λ h. let r : (C : List ℕ) × (C ∈ kept) × (is_empty C ≡ true) = some_true is_empty kept h in subst (λ D. D ∈ kept) (empty_is r.0 r.2) r.1,
  λ i. some_from is_empty kept [] i refl,
)

open_is : (kept : List (List ℕ)) → (not (closed kept) ≡ true) ↔ (Closed kept → ⊥)
open_is kept = (
  λ h c. both_ways (closed kept) (not-true (closed kept) h) ((closed_is kept).1 c),
  λ n. not_from_false (closed kept) (⊎_elim (λ e. absurd (n ((closed_is kept).0 e))) (λ e. e) (cases_Bool (closed kept))),
)

pub room_is : (S : Store) (kept : List (List ℕ)) (C : List ℕ) → (room S kept C ≡ true) ↔ Room S kept C
room_is S kept C = (
  λ h. let p : _ × _ = and_parts (ltb (length kept) 8192) (leb (weights S kept + weight S C) S.capacity) h in
      (ltb-true (length kept) 8192 p.0, leb-true (weights S kept + weight S C) S.capacity p.1),
  λ r. and_from (ltb (length kept) 8192) (leb (weights S kept + weight S C) S.capacity) (lt-ltb (length kept) 8192 r.0) (le-leb (weights S kept + weight S C) S.capacity r.1),
)

-- lists of tests and of conditions

-- test by test, with the same numbers, each true exactly where its condition holds
abbrev Matches : List (ℕ × Bool) → List Check → Type 0
Matches [] [] = Unit {0}
Matches [] (c ∷ cs) = ⊥
Matches (t ∷ ts) [] = ⊥
Matches ((j, b) ∷ ts) ((k, P) ∷ cs) = (j ≡ k) × ((b ≡ true) ↔ P) × Matches ts cs

matches_append : (ts us : List (ℕ × Bool)) (cs ds : List Check) → Matches ts cs → Matches us ds → Matches (ts ++ us) (cs ++ ds)
matches_append [] us [] ds m n = n
matches_append [] us (c ∷ cs) ds m n = absurd m
matches_append (t ∷ ts) us [] ds m n = absurd m
matches_append ((j, b) ∷ ts) us ((k, P) ∷ cs) ds (e, d, m) n = (e, d, matches_append ts us cs ds m n)

passed : (ts : List (ℕ × Bool)) (cs : List Check) (a : Answer) (C : List ℕ) → Matches ts cs → first_failing ts a ≡ keeps C → Hold cs × (a ≡ keeps C)
passed [] [] a C m h = (tt, h)
passed [] (c ∷ cs) a C m h = absurd m
passed (t ∷ ts) [] a C m h = absurd m
passed ((j, true) ∷ ts) ((k, P) ∷ cs) a C (e, d, m) h = let r : Hold cs × (a ≡ keeps C) = passed ts cs a C m h in ((d.0 refl, r.0), r.1)
passed ((j, false) ∷ ts) ((k, P) ∷ cs) a C (e, d, m) h = absurd (let z : ◌≡◌ {A = ℕ} 0 1 = cc in omega arith)

passes : (ts : List (ℕ × Bool)) (cs : List Check) (a : Answer) → Matches ts cs → Hold cs → first_failing ts a ≡ a
passes [] [] a m h = refl
passes [] (c ∷ cs) a m h = absurd m
passes (t ∷ ts) [] a m h = absurd m
passes ((j, true) ∷ ts) ((k, P) ∷ cs) a (e, d, m) h = passes ts cs a m h.1
passes ((j, false) ∷ ts) ((k, P) ∷ cs) a (e, d, m) h = absurd (false≢true (d.1 h.0))

failed : (ts : List (ℕ × Bool)) (cs : List Check) (C : List ℕ) (n : ℕ) → Matches ts cs → first_failing ts (keeps C) ≡ refused n → FailsWith n cs
failed [] [] C n m h = absurd (let z : ◌≡◌ {A = ℕ} 0 1 = cc in omega arith)
failed [] (c ∷ cs) C n m h = absurd m
failed (t ∷ ts) [] C n m h = absurd m
failed ((j, true) ∷ ts) ((k, P) ∷ cs) C n (e, d, m) h = inr (d.0 refl, failed ts cs C n m h)
failed ((j, false) ∷ ts) ((k, P) ∷ cs) C n (e, d, m) h = inl (cc, λ x. false≢true (d.1 x))

fails : (ts : List (ℕ × Bool)) (cs : List Check) (a : Answer) (n : ℕ) → Matches ts cs → FailsWith n cs → first_failing ts a ≡ refused n
fails [] [] a n m h = absurd h
fails [] (c ∷ cs) a n m h = absurd m
fails (t ∷ ts) [] a n m h = absurd m
fails ((j, true) ∷ ts) ((k, P) ∷ cs) a n (e, d, m) (inl h) = absurd (h.1 (d.0 refl))
fails ((j, true) ∷ ts) ((k, P) ∷ cs) a n (e, d, m) (inr h) = fails ts cs a n m h.1
fails ((j, false) ∷ ts) ((k, P) ∷ cs) a n (e, d, m) (inl h) = ap refused (e ∙ sym h.0)
fails ((j, false) ∷ ts) ((k, P) ∷ cs) a n (e, d, m) (inr h) = absurd (false≢true (d.1 h.0))

module _ (is_closed : Bool) (StillOpen : Type 0) (open_is : (not is_closed ≡ true) ↔ StillOpen) (S : Store) (m : Meaning) (kept : List (List ℕ)) where
  -- what is asked of each clause of the rule is asked of the one that it gives
  of_given : (line : Line) (P : List ℕ → Type 0) (b : Bool) → (b ≡ true) ↔ P (given m kept line) → (b ≡ true) ↔ ((C : List ℕ) → Gives m kept line C → P C)
  of_given line P b d = (λ e C g. subst P (sym (gives_one m kept line C g)) (d.0 e), λ h. d.1 (h (given m kept line) (gives_given m kept line)))

  rule_matches : (line : Line) → Matches (rule_tests m kept line) (conditions m kept line)
  rule_matches (axiom_line j) = (refl, below_is j (length m.clauses), (refl, free_is (clause_of m j), tt))
  rule_matches (resolution p q v) =
      let C : List ℕ = given m kept (resolution p q v) in (
        refl,
        below_is p (length kept),
        (refl, below_is q (length kept), (refl, variable_is m v, (refl, resolvable_is m (line_of kept p) (line_of kept q) v, (refl, of_given (resolution p q v) (λ D. Tautological D → ⊥) (tautology_free C) (free_is C), tt)))),
      )
  rule_matches (reduction p v) = (refl, below_is p (length kept), (refl, variable_is m v, (refl, reducible_is m (line_of kept p) v, tt)))
  rule_matches (symmetry p card) = (refl, below_is p (length kept), (refl, admissible_is m card, (refl, carries_is m card, tt)))

  abbrev all_tests : Line → List (ℕ × Bool)
  all_tests line = tests_when is_closed S m kept line

  abbrev all_checks : Line → List Check
  all_checks line = checks_when StillOpen S m kept line

  matches : (line : Line) → Matches (all_tests line) (all_checks line)
  matches line = (
    refl,
    open_is,
    matches_append (rule_tests m kept line) ((38, room S kept (given m kept line)) ∷ []) (conditions m kept line) ((38, ((C : List ℕ) → Gives m kept line C → Room S kept C)) ∷ [])
        (rule_matches line) (refl, of_given line (Room S kept) (room S kept (given m kept line)) (room_is S kept (given m kept line)), tt),
  )

  -- what is asked of one clause of the rule is asked of all
  of_one : (line : Line) (P : List ℕ → Type 0) (C : List ℕ) → Gives m kept line C → P C → (D : List ℕ) → Gives m kept line D → P D
  of_one line P C g h D k = subst P (gives_one m kept line C g ∙ sym (gives_one m kept line D k)) h

  granting : (line : Line) (C : List ℕ) → (Hold (all_checks line) × Gives m kept line C) ↔ (StillOpen × Permits m kept line C × Room S kept C)
  granting (axiom_line j) C = (
    λ h. let ((nc, (lt, (free, (fits, u)))), g) = h in (nc, (lt, g, λ t. free (t.0, (g.1 t.0).0 t.1, (g.1 (neg t.0)).0 t.2)), fits C g),
    λ h. let (nc, (lt, g, free), r) = h in
        ((nc, (lt, (λ t. free (t.0, (g.1 t.0).1 t.1, (g.1 (neg t.0)).1 t.2), (of_one (axiom_line j) (Room S kept) C g r, tt)))), g),
  )
  granting (resolution p q v) C = (
    λ h. let ((nc, (lp, (lq, (b, (r, (free, (fits, u))))))), g) = h in (nc, (lp, lq, b, r, g, free C g), fits C g),
    λ h. let (nc, (lp, lq, b, r, g, free), fits) = h in
        ((nc, (lp, (lq, (b, (r, (of_one (resolution p q v) (λ D. Tautological D → ⊥) C g free, (of_one (resolution p q v) (Room S kept) C g fits, tt))))))), g),
  )
  granting (reduction p v) C = (
    λ h. let ((nc, (lp, (b, (r, (fits, u))))), g) = h in (nc, (lp, b, r, g), fits C g),
    λ h. let (nc, (lp, b, r, g), fits) = h in ((nc, (lp, (b, (r, (of_one (reduction p v) (Room S kept) C g fits, tt))))), g),
  )
  granting (symmetry p card) C = (
    λ h. let ((nc, (lp, (a, (c, (fits, u))))), g) = h in (nc, (lp, record { admissible = a; carries = c }, g), fits C g),
    λ h. let (nc, (lp, s, g), fits) = h in ((nc, (lp, (s.admissible, (s.carries, (of_one (symmetry p card) (Room S kept) C g fits, tt))))), g),
  )

  pub decided_when : (line : Line) → DecidedWhen is_closed StillOpen S m kept line
  unfolding claim_when
  decided_when line = record {
    keeping = λ C. (
      λ h. let r : Hold (all_checks line) × (keeps (given m kept line) ≡ keeps C) = passed (all_tests line) (all_checks line) (keeps (given m kept line)) C (matches line) h in
          let e : given m kept line ≡ C = (let k : keeps (given m kept line) ≡ keeps C = r.1 in cc) in
          (r.0, subst (Gives m kept line) e (gives_given m kept line)),
      λ g. passes (all_tests line) (all_checks line) (keeps (given m kept line)) (matches line) g.0 ∙ ap keeps (sym (gives_one m kept line C g.1)),
    );
    refusing = λ k. (failed (all_tests line) (all_checks line) (given m kept line) k (matches line), fails (all_tests line) (all_checks line) (keeps (given m kept line)) k (matches line));
    granting = granting line;
  }

-- a case is closed exactly where the empty clause has been kept
pub claim_is_when : (S : Store) (m : Meaning) (kept : List (List ℕ)) (line : Line) → claim S m kept line ≡ claim_when (closed kept) S m kept line
unfolding claim claim_when
claim_is_when S m kept line = refl

pub decided : (S : Store) (m : Meaning) (kept : List (List ℕ)) (line : Line) → Decided S m kept line
unfolding claim claim_when
decided S m kept line =
    let d : DecidedWhen (closed kept) (Closed kept → ⊥) S m kept line = decided_when (closed kept) (Closed kept → ⊥) (open_is kept) S m kept line in
    record { keeping = d.keeping; refusing = d.refusing; granting = d.granting }
