-- What stands behind a word leaves the words up to it as they are.
use Rattle.std.proofs.Common.{◌≡◌, ℕ, suc, ◌+◌, ◌<◌, ◌≤◌, true, eqb, List, [], ◌∷◌, ◌++◌, map, length, sym, refl, ap, ◌∙◌, subst, ⊎_elim, arith}
use Rattle.std.specs.List.{AllByRecursion}
use Rattle.std.proofs.lemmas.List.{append-nil, append_assoc, length-append, length_push, map-append}
use Rattle.std.proofs.ByRecursion.{All-append, All-map, All-weaker, all-has, has_append_right, has_get_or}
use Rattle.std.proofs.lemmas.Bool.{cases_Bool, cond_both}
use Rattle.words.specs.declared.token.Lexeme.{Lexeme}
use Rattle.words.specs.Words.{Region, line_start, indented, comment, body, blank, next, seen, bare, ended, words_from, lexeme, lexemes, Apart}
use Rattle.words.specs.Theorems.{WordsBehindNeverMatter}
use Rattle.words.proofs.Reading.{at_blank, at_solid}

-- the region behind some bytes
abbrev behind_all : Region → List ℕ → Region
behind_all r [] = r
behind_all r (b ∷ bs) = behind_all (next r b) bs

bare_append : (r : Region) (xs ys : List ℕ) → bare r (xs ++ ys) ≡ bare r xs ++ bare (behind_all r xs) ys
bare_append r [] ys = refl
bare_append r (b ∷ bs) ys = ap (λ s. seen r b ∷ s) (bare_append (next r b) bs ys)

length_bare : (r : Region) (xs : List ℕ) → length (bare r xs) ≡ length xs
length_bare r [] = refl
length_bare r (b ∷ bs) = ap suc (length_bare (next r b) bs)

-- a blank is read as a blank, in a comment too
apart_bare : (r : Region) (ys : List ℕ) → Apart ys → Apart (bare r ys)
apart_bare r [] h = tt
apart_bare line_start (b ∷ bs) h = cond_both (eqb b 99) 32 b (λ x. blank x ≡ true) (λ _. refl) (λ _. h)
apart_bare indented (b ∷ bs) h = h
apart_bare comment (b ∷ bs) h = refl
apart_bare body (b ∷ bs) h = h

abbrev Spelled : Type 0
Spelled = ℕ × List ℕ

abbrev From : ℕ → Spelled → Type 0
From n x = n ≤ x.0

ended_from : (n at : ℕ) (w : List ℕ) → n + length w ≤ at → AllByRecursion (From n) (ended at w)
ended_from n at [] h = tt
ended_from n at (b ∷ bs) h = (omega arith, tt)

-- no word begins before the offset at which the one begun does
from : (n at : ℕ) (w bs : List ℕ) → n + length w ≤ at → AllByRecursion (From n) (words_from at w bs)
from n at w [] h = ended_from n at w h
from n at w (b ∷ bs) h =
    cond_both (blank b) (ended at w ++ words_from (at + 1) [] bs) (words_from (at + 1) (w ++ (b ∷ [])) bs) (AllByRecursion (From n))
    (λ _. All-append (From n) (ended at w) _ (ended_from n at w h) (from n (at + 1) [] bs (omega arith)))
    (λ _. from n (at + 1) (w ++ (b ∷ [])) bs (omega (arith, length_push w b)))

-- the words X that bytes xs end or leave begun, and behind them words that begin at n or later
abbrev Cut : ℕ → ℕ → List ℕ → List ℕ → List Spelled → List ℕ → Type 0
Cut n at w xs X ys = (T : List Spelled) × (words_from at w (xs ++ ys) ≡ X ++ T) × AllByRecursion (From n) T

cut_here : (n at : ℕ) (w ys : List ℕ) → n ≤ at → Apart ys → Cut n at w [] (ended at w) ys
cut_here n at w [] h a = ([], sym (append-nil (ended at w)), tt)
cut_here n at w (b ∷ bs) h a = (words_from (at + 1) [] bs, at_blank at w b bs a, from n (at + 1) [] bs (omega arith))

cut : (n at : ℕ) (w xs : List ℕ) → n ≤ at + length xs → (X : List Spelled) × ((ys : List ℕ) → Apart ys → Cut n at w xs X ys)
cut n at w [] h = (ended at w, λ ys a. cut_here n at w ys (omega arith) a)
cut n at w (b ∷ bs) h =
    ⊎_elim
    (λ e.
    let i = cut n (at + 1) [] bs (omega arith) in (
      ended at w ++ i.0,
      λ ys a.
          let t = i.1 ys a in
          (t.0, at_blank at w b (bs ++ ys) e ∙ ap (λ x. ended at w ++ x) t.1 ∙ sym (append_assoc (ended at w) i.0 t.0), t.2),
    ))
    (λ e.
    let i = cut n (at + 1) (w ++ (b ∷ [])) bs (omega arith) in
    (i.0, λ ys a. let t = i.1 ys a in (t.0, at_solid at w b (bs ++ ys) e ∙ t.1, t.2)))
    (cases_Bool (blank b))

abbrev Past : ℕ → Lexeme → Type 0
Past n l = n < l.place

-- a word that is not among the later ones is among the earlier ones
earlier : (n : ℕ) (X T before after : List Lexeme) (l : Lexeme) → AllByRecursion (Past n) T → l.place ≡ n
    → X ++ T ≡ before ++ (l ∷ after) → (rest : List Lexeme) × (X ≡ before ++ (l ∷ rest))
earlier n [] T before after l far at e =
    let here = has_append_right before (l ∷ after) l (has_get_or (l ∷ after) 0 l (omega arith)) in
    let late = all-has (Past n) (before ++ (l ∷ after)) l (subst (AllByRecursion (Past n)) e far) here in
    absurd (omega arith)
earlier n (x ∷ xs) T [] after l far at e = (xs, cc)
earlier n (x ∷ xs) T (y ∷ ys) after l far at e =
    let i = earlier n xs T ys after l far at (cc) in
    let same : x ≡ y = cc in
    (i.0, cc i.1)

-- the words of a text up to the end of its front, and those behind
cut_text : (n : ℕ) (xs : List ℕ) → n < length xs
    → (X : List Lexeme) × ((ys : List ℕ) → Apart ys → (T : List Lexeme) × (lexemes (xs ++ ys) ≡ X ++ T) × AllByRecursion (Past n) T)
cut_text n xs h =
    let r = behind_all line_start xs in
    let i = cut (n + 1) 0 [] (bare line_start xs) (omega (arith, length_bare line_start xs)) in (
      map lexeme i.0,
      λ ys a.
          let t = i.1 (bare r ys) (apart_bare r ys a) in (
            map lexeme t.0,
            ap (map lexeme) (ap (words_from 0 []) (bare_append line_start xs ys) ∙ t.1) ∙ map-append lexeme i.0 t.0,
            All-map (Past n) lexeme t.0 (All-weaker (From (n + 1)) (λ x. Past n (lexeme x)) (λ x q. omega arith) t.0 t.2),
          ),
    )

-- two lists of words that go on differently behind the same front
shared : (n : ℕ) (X T T' A A' before after : List Lexeme) (l : Lexeme) → A ≡ X ++ T → A' ≡ X ++ T' → AllByRecursion (Past n) T
    → A ≡ before ++ (l ∷ after) → l.place ≡ n → (after' : List Lexeme) × (A' ≡ before ++ (l ∷ after'))
shared n X T T' A A' before after l is is' far e at =
    let rest = earlier n X T before after l far at (sym is ∙ e) in
    (rest.0 ++ T', is' ∙ ap (λ x. x ++ T') rest.1 ∙ append_assoc before (l ∷ rest.0) T')

pub words_behind_never_matter : WordsBehindNeverMatter
words_behind_never_matter front word back back' solid a a' before l after e at =
    let i = cut_text (length front) (front ++ word) (let s = solid.0 in omega (arith, length-append front word)) in
    let t = i.1 back a in
    let t' = i.1 back' a' in
    shared (length front) i.0 t.0 t'.0 (lexemes (front ++ (word ++ back))) (lexemes (front ++ (word ++ back'))) before after l
    (ap lexemes (sym (append_assoc front word back)) ∙ t.1) (ap lexemes (sym (append_assoc front word back')) ∙ t'.1) t.2 e at
