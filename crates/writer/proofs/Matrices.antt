-- The clauses of a well-formed formula with the latest first, as a text that is read holds them, and that they are lawful.
use Rattle.std.proofs.Common.{◌≡◌, ℕ, List, [], ◌∷◌, ◌++◌, map, reverse, length, sum_by, sym, refl, ap, ◌∙◌, arith}
use mathlib.Core.List.{reverse-cons}
use Rattle.std.specs.List.{AllByRecursion}
use Rattle.std.proofs.lemmas.List.{length-map, length-reverse, reverse-reverse, map_push}
use Rattle.std.proofs.lemmas.List.Sums.{sum_by-cons, sum_by_push}
use Rattle.calculus.specs.Meaning.{Code, Clause}
use Rattle.grammar.proofs.Formedness.{all_reverse}

-- the latest clause first, and in each the latest literal
abbrev pub back : List (List ℕ) → List (List ℕ)
back Cs = reverse (map reverse Cs)

map_reverse : {X Y : Type 0} (f : X → Y) (xs : List X) → map f (reverse xs) ≡ reverse (map f xs)
map_reverse f [] = refl
map_reverse f (x ∷ xs) =
    ap (map f) (reverse-cons x xs)
    ∙ (map_push f (reverse xs) x ∙ (ap (λ ys. ys ++ (f x ∷ [])) (map_reverse f xs) ∙ sym (reverse-cons (f x) (map f xs))))

map_reverse_twice : (Cs : List (List ℕ)) → map reverse (map reverse Cs) ≡ Cs
map_reverse_twice [] = refl
map_reverse_twice (C ∷ Cs) = ap (λ D. D ∷ map reverse (map reverse Cs)) (reverse-reverse C) ∙ ap (λ Ds. C ∷ Ds) (map_reverse_twice Cs)

pub back_back : (Cs : List (List ℕ)) → back (back Cs) ≡ Cs
back_back Cs = ap reverse (map_reverse reverse (map reverse Cs)) ∙ (reverse-reverse (map reverse (map reverse Cs)) ∙ map_reverse_twice Cs)

pub length_back : (Cs : List (List ℕ)) → length (back Cs) ≡ length Cs
length_back Cs = length-reverse (map reverse Cs) ∙ length-map Cs reverse

sum_by_reverse : {X : Type 0} (f : X → ℕ) (xs : List X) → sum_by f (reverse xs) ≡ sum_by f xs
sum_by_reverse f [] = refl
sum_by_reverse f (x ∷ xs) =
    ap (sum_by f) (reverse-cons x xs) ∙ (sum_by_push f (reverse xs) x ∙ omega (arith, sum_by_reverse f xs, sum_by-cons f x xs))

total_reversed : (Cs : List (List ℕ)) → sum_by length (map reverse Cs) ≡ sum_by length Cs
total_reversed [] = refl
total_reversed (C ∷ Cs) =
    omega (arith, sum_by-cons length (reverse C) (map reverse Cs), sum_by-cons length C Cs, total_reversed Cs, length-reverse C)

pub total_back : (Cs : List (List ℕ)) → sum_by length (back Cs) ≡ sum_by length Cs
total_back Cs = sum_by_reverse length (map reverse Cs) ∙ total_reversed Cs

clauses_reversed : (n : ℕ) (Cs : List (List ℕ)) → AllByRecursion (Clause n) Cs → AllByRecursion (Clause n) (map reverse Cs)
clauses_reversed n [] h = tt
clauses_reversed n (C ∷ Cs) h =
    ((rw length-reverse h.0.0, all_reverse (Code n) C h.0.1), clauses_reversed n Cs h.1)

pub clauses_back : (n : ℕ) (Cs : List (List ℕ)) → AllByRecursion (Clause n) Cs → AllByRecursion (Clause n) (back Cs)
clauses_back n Cs h = all_reverse (Clause n) (map reverse Cs) (clauses_reversed n Cs h)
