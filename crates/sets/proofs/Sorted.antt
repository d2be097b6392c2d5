-- Ascending lists of literals and sets of literals are the same thing.
use Rattle.std.proofs.Common.{◌≡◌, ℕ, ◌+◌, ◌<◌, List, [], ◌∷◌, ◌++◌, length, get_or, take, replicate, sym, refl, ap, ◌∙◌, inl, inr, ⊎_elim, arith, length-set}
use Rattle.std.specs.List.{AllByRecursion}
use Rattle.std.proofs.ByRecursion.{All-get_or}
use Rattle.std.proofs.lemmas.List.{take_more, get_or_past}
use Rattle.std.proofs.lemmas.Bool.{cases_lt}
use Rattle.calculus.specs.Sets.{◌∈◌, Same}
use Rattle.calculus.specs.Meaning.{Meaning, Formed, Code, Clause, clause_of, literal_of}
use Rattle.laws.specs.Clauses.{Ascending}
use Rattle.laws.specs.Claims.{insert, sorted}
use Rattle.laws.proofs.Sets.{in_left, in_right, in_append, in_insert, from_insert}
use Rattle.laws.proofs.Ascending.{asc_insert, asc_sorted, asc_same, sorted_asc}
use Rattle.laws.proofs.Rules.{sorted_same}
use Rattle.laws.proofs.Formedness.{all_from}
use Rattle.sets.specs.Members.{first_members, members}
use Rattle.sets.specs.Steps.{with_bit}
use Rattle.sets.proofs.Elements.{from_members, asc_members, inserted}

-- all members are literals
pub codes_members : (words : List ℕ) → AllByRecursion (Code 512) (members words)
codes_members words = all_from (Code 512) (members words) (λ l i. (from_members words l i).0)

-- sets with the same elements have the same list
pub same_members : (v w : List ℕ) → Same (members v) (members w) → members v ≡ members w
same_members v w s = asc_same (members v) (members w) (asc_members v) (asc_members w) s

-- the list of members is sorted
pub sorted_members : (words : List ℕ) → sorted (members words) ≡ members words
sorted_members words = sorted_asc (members words) (asc_members words)

-- words with no bit set have none
pub no_members : members (replicate 16 0) ≡ []
unfolding first_members
no_members = refl

-- the words of a list of literals
pub words_of : List ℕ → List ℕ
words_of [] = replicate 16 0
words_of (x ∷ xs) = with_bit (words_of xs) x

pub words_long : (xs : List ℕ) → length (words_of xs) ≡ 16
unfolding words_of
words_long [] = refl
words_long (x ∷ xs) = length-set (words_of xs) _ _ ∙ words_long xs

pub sorted_of : (xs : List ℕ) → AllByRecursion (Code 512) xs → members (words_of xs) ≡ sorted xs
unfolding words_of
sorted_of [] a = no_members
sorted_of (x ∷ xs) a = inserted (words_of xs) x (words_long xs) a.0 ∙ ap (insert x) (sorted_of xs a.1)

-- an ascending list of literals is the list of a set's members
pub members_of : (xs : List ℕ) → Ascending xs → AllByRecursion (Code 512) xs → members (words_of xs) ≡ xs
members_of xs a c = sorted_of xs c ∙ sorted_asc xs a

-- one code after another

pub sorted_push : (xs : List ℕ) (x : ℕ) → insert x (sorted xs) ≡ sorted (xs ++ x ∷ [])
sorted_push xs x =
    asc_same (insert x (sorted xs)) (sorted (xs ++ x ∷ [])) (asc_insert x (sorted xs) (asc_sorted xs)) (asc_sorted (xs ++ x ∷ [])) (λ l. (to l, fro l))
  where
    to : (l : ℕ) → l ∈ insert x (sorted xs) → l ∈ sorted (xs ++ x ∷ [])
    to l i =
        (sorted_same (xs ++ x ∷ []) l).1
        (⊎_elim (λ e. in_right l xs (x ∷ []) (inl e)) (λ m. in_left l xs (x ∷ []) ((sorted_same xs l).0 m)) (from_insert x l (sorted xs) i))

    fro : (l : ℕ) → l ∈ sorted (xs ++ x ∷ []) → l ∈ insert x (sorted xs)
    fro l i =
        in_insert x l (sorted xs)
        (⊎_elim (λ m. inr ((sorted_same xs l).1 m)) (⊎_elim (λ e. inl e) (λ m. absurd m)) (in_append l xs (x ∷ []) ((sorted_same (xs ++ x ∷ []) l).0 i)))

-- the set of the codes so far, and of one more
pub sorted_more : (codes words' : List ℕ) (ms : List ℕ) (i x : ℕ) → i < length codes → x ≡ get_or codes i 0 → ms ≡ sorted (take i codes) → members words' ≡ insert x ms → members words' ≡ sorted (take (i + 1) codes)
sorted_more codes words' ms i x h g e f = f ∙ ap (insert x) e ∙ sorted_push (take i codes) x ∙ ap (λ y. sorted (take i codes ++ y ∷ [])) g ∙ ap sorted (sym (take_more codes i 0 h))

-- the codes of a formula's clauses are literals
pub clause_code : (m : Meaning) → Formed m → (j i : ℕ) → i < length (clause_of m j) → Code 512 (literal_of m j i)
clause_code m formed j i h =
    ⊎_elim
    (λ lt. let c : Code m.n (literal_of m j i) = All-get_or (Code m.n) (clause_of m j) i 0 h (All-get_or (Clause m.n) m.clauses j [] lt formed.clauses).1 in
    (c.0, omega (arith, c.1, formed.prefix.few)))
    (λ le. absurd (omega (arith, ap length (get_or_past m.clauses j [] le)))) (cases_lt j (length m.clauses))
