-- What a loop over the literals of a clause has put into a set so far, as a sorted list; and what the literals are taken to.
use Rattle.std.proofs.Common.{◌≡◌, ℕ, ◌+◌, ◌*◌, ◌/◌, ◌<◌, ◌≤◌, Bool, true, false, not, cond, eqb, Option, None, Some, MatchOption, List, [], ◌∷◌, ◌++◌, map, length, get_or, take, sym, refl, ap, ◌∙◌, subst, append_assoc, append-nil, arith}
use Rattle.std.specs.Bool.{then_some}
use Rattle.std.specs.List.{AllByRecursion, filter_map, cons_option}
use Rattle.std.proofs.ByRecursion.{All-get_or}
use Rattle.std.proofs.lemmas.List.{take_more, take_all}
use Rattle.std.proofs.lemmas.List.Elements.{filter_map-append}
use Rattle.std.proofs.lemmas.Bool.{eqb-true, eqb-false}
use Rattle.calculus.specs.Literals.{var}
use Rattle.calculus.specs.Meaning.{Code}
use Rattle.laws.specs.Cards.{Card, act}
use Rattle.laws.specs.Claims.{insert, sorted, without}
use Rattle.sets.specs.Members.{members}
use Rattle.sets.proofs.Sorted.{sorted_members, sorted_push}
use Rattle.shelf.specs.Proper.{Proper, proper_out}

-- every literal of a clause is one
pub code_at : (C xs : List ℕ) (i : ℕ) → ∥ Proper C ∥₁ → xs ≡ C → i < length xs → Code 512 (get_or xs i 0)
code_at C xs i p e h = All-get_or (Code 512) xs i 0 h (subst (AllByRecursion (Code 512)) (sym e) (proper_out p).codes)

-- to a set, what h takes the literals to, one literal after the other

module _ (h : ℕ → Option ℕ) where
  pub taken_none : (words : List ℕ) → members words ≡ sorted (members words ++ [])
  taken_none words = sym (ap sorted (append-nil (members words)) ∙ sorted_members words)

  module _ (S xs ms : List ℕ) (i : ℕ) (so_far : ms ≡ sorted (S ++ filter_map h (take i xs))) where
    more : i < length xs → S ++ filter_map h (take (i + 1) xs) ≡ (S ++ filter_map h (take i xs)) ++ filter_map h (get_or xs i 0 ∷ [])
    more lt =
        ap (λ ys. S ++ ys) (ap (filter_map h) (take_more xs i 0 lt) ∙ filter_map-append h (take i xs) (get_or xs i 0 ∷ []))
        ∙ sym (append_assoc S (filter_map h (take i xs)) (filter_map h (get_or xs i 0 ∷ [])))

    pub taken_passed : i < length xs → None ≡ h (get_or xs i 0) → ms ≡ sorted (S ++ filter_map h (take (i + 1) xs))
    taken_passed lt e =
        so_far
        ∙ ap sorted
        (sym (more lt ∙ ap (λ (o : Option ℕ). (S ++ filter_map h (take i xs)) ++ cons_option o []) (sym e) ∙ append-nil (S ++ filter_map h (take i xs))))

    pub taken_added : (y : ℕ) (ms' : List ℕ) → i < length xs → Some y ≡ h (get_or xs i 0) → ms' ≡ insert y ms → ms' ≡ sorted (S ++ filter_map h (take (i + 1) xs))
    taken_added y ms' lt e f =
        f ∙ ap (insert y) so_far ∙ sorted_push (S ++ filter_map h (take i xs)) y
        ∙ ap sorted (sym (more lt ∙ ap (λ (o : Option ℕ). (S ++ filter_map h (take i xs)) ++ cons_option o []) (sym e)))

    pub taken_all : (C : List ℕ) → xs ≡ C → length xs ≤ i → ms ≡ sorted (S ++ filter_map h C)
    taken_all C e end = so_far ∙ ap (λ ys. sorted (S ++ filter_map h ys)) (take_all i xs end ∙ e)

-- to the empty set
pub from_none : (S ys zs ms : List ℕ) → S ≡ [] → ms ≡ sorted (S ++ ys) → ys ≡ zs → ms ≡ sorted zs
from_none S ys zs ms e f g = f ∙ ap (λ xs. sorted (xs ++ ys)) e ∙ ap sorted g

-- a literal that is passed on where a test says so
pub passed_on : (b : Bool) (x : ℕ) (r : Option ℕ) → Code 512 x → r ≡ then_some b x → (r ≡ then_some b x) × MatchOption r (Unit {0}) (Code 512)
passed_on b x r code e = (e, subst (λ (o : Option ℕ). MatchOption o (Unit {0}) (Code 512)) (sym e) (a_literal b))
  where
    a_literal : (b : Bool) → MatchOption (then_some b x) (Unit {0}) (Code 512)
    a_literal true = code
    a_literal false = tt

-- all but the literal l

abbrev pub other : ℕ → ℕ → Option ℕ
other l x = then_some (not (eqb l x)) x

pub others : (l : ℕ) (xs : List ℕ) → filter_map (other l) xs ≡ without l xs
others l [] = refl
others l (x ∷ xs) = kept (eqb l x) (others l xs)
  where
    kept : (b : Bool) → filter_map (other l) xs ≡ without l xs → cons_option (then_some (not b) x) (filter_map (other l) xs) ≡ cond b (without l xs) (x ∷ without l xs)
    kept true e = e
    kept false e = ap (λ ys. x ∷ ys) e

-- all but the literals of v

abbrev pub off : ℕ → ℕ → Option ℕ
off v x = then_some (not (eqb (var x) v)) x

pub rest : (v : ℕ) (xs : List ℕ) → filter_map (off v) xs ≡ without (2 * v) (without (2 * v + 1) xs)
rest v [] = refl
rest v (x ∷ xs) =
    kept (eqb (var x) v) (eqb (2 * v + 1) x) (eqb (2 * v) x) refl refl refl (rest v xs) ∙ sym (split (eqb (2 * v + 1) x))
  where
    front : List ℕ
    front = without (2 * v) (without (2 * v + 1) xs)

    split : (b : Bool) → without (2 * v) (cond b (without (2 * v + 1) xs) (x ∷ without (2 * v + 1) xs)) ≡ cond b front (cond (eqb (2 * v) x) front (x ∷ front))
    split true = refl
    split false = refl

    kept :
        (over negation plain : Bool) → eqb (var x) v ≡ over → eqb (2 * v + 1) x ≡ negation → eqb (2 * v) x ≡ plain → filter_map (off v) xs ≡ front →
        cons_option (then_some (not over) x) (filter_map (off v) xs) ≡ cond negation front (cond plain front (x ∷ front))
    kept true true b e f g h = h
    kept true false true e f g h = h
    kept true false false e f g h =
        absurd (let p : x / 2 ≡ v = eqb-true (var x) v e in eqb-false (2 * v + 1) x f (let n : 2 * v ≡ x → ⊥ = eqb-false (2 * v) x g in omega arith))
    kept false true b e f g h = absurd (eqb-false (var x) v e (let p : 2 * v + 1 ≡ x = eqb-true (2 * v + 1) x f in omega arith))
    kept false false true e f g h = absurd (eqb-false (var x) v e (let p : 2 * v ≡ x = eqb-true (2 * v) x g in omega arith))
    kept false false false e f g h = ap (λ ys. x ∷ ys) h

-- the images of all

abbrev pub imaged : Card → ℕ → Option ℕ
imaged card x = Some (act card x)

pub taken_on :
    (card : Card) (x : ℕ) (r : Option ℕ) → Code 512 (act card x) → r ≡ imaged card x → (r ≡ imaged card x) × MatchOption r (Unit {0}) (Code 512)
taken_on card x r code e = (e, subst (λ (o : Option ℕ). MatchOption o (Unit {0}) (Code 512)) (sym e) code)

pub images : (card : Card) (xs : List ℕ) → filter_map (imaged card) xs ≡ map (act card) xs
images card [] = refl
images card (x ∷ xs) = ap (λ ys. act card x ∷ ys) (images card xs)
