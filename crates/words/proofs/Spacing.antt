-- A text that is made of words with a blank behind each reads back as those words.
use Rattle.std.proofs.Common.{◌≡◌, ℕ, ◌+◌, ◌<◌, true, false, List, [], ◌∷◌, ◌++◌, map, length, decimal, sym, refl, ap, ◌∙◌, add-zero, arith}
use Rattle.std.specs.List.{AllByRecursion}
use Rattle.std.proofs.lemmas.List.{append-nil, append_assoc}
use Rattle.std.proofs.lemmas.Bool.Decides.{nat_tests}
use Rattle.std.proofs.lemmas.Bool.{and_parts}
use Rattle.std.proofs.lemmas.Fmt.{decimal_nonempty}
use Rattle.words.specs.Tokens.{digit, token_of}
use Rattle.words.specs.Words.{line_start, body, blank, bare, ended, words_from, words, lexeme, lexemes, spellings, Solid}
use Rattle.words.proofs.Numbers.{numeric, numeric_decimal}
use Rattle.words.proofs.Reading.{at_blank, at_solid, ended_some}

gather : (at : ℕ) (u w : List ℕ) (b : ℕ) (bs : List ℕ) → AllByRecursion (λ d. blank d ≡ false) w → blank b ≡ true
    → words_from at u (w ++ (b ∷ bs)) ≡ ended (at + length w) (u ++ w) ++ words_from (at + length w + 1) [] bs
gather at u [] b bs s e = rw (append-nil u, add-zero at) (at_blank at u b bs e)
gather at u (d ∷ ds) b bs s e =
    let up : at + 1 + length ds ≡ at + length (d ∷ ds) = omega arith in
    at_solid at u d (ds ++ (b ∷ bs)) s.0
    ∙ gather (at + 1) (u ++ (d ∷ [])) ds b bs s.1 e
    ∙ (rw (up, append_assoc u (d ∷ []) ds))

-- a word and a blank, and then what follows
pub word_blank : (at : ℕ) (w : List ℕ) (b : ℕ) (bs : List ℕ) → Solid w → blank b ≡ true
    → words_from at [] (w ++ (b ∷ bs)) ≡ (at, w) ∷ words_from (at + length w + 1) [] bs
word_blank at w b bs s e =
    let some = s.0 in
    gather at [] w b bs s.1 e
    ∙ ap (λ ws. ws ++ words_from (at + length w + 1) [] bs) (ended_some at (length w) w refl (omega arith))

-- from the first word on nothing is blanked out
pub bare_body : (bs : List ℕ) → bare body bs ≡ bs
bare_body [] = refl
bare_body (b ∷ bs) = ap (λ x. b ∷ x) (bare_body bs)

-- a text that begins with p has no comments
pub bare_p : (bs : List ℕ) → bare line_start (112 ∷ bs) ≡ 112 ∷ bs
bare_p bs = ap (λ x. 112 ∷ x) (bare_body bs)

-- words, each with the byte behind it
abbrev pub spaced : List (List ℕ × ℕ) → List ℕ
spaced [] = []
spaced (x ∷ xs) = x.0 ++ (x.1 ∷ spaced xs)

-- each a word as it may stand in a text, with a blank
abbrev pub WellSpaced : List (List ℕ × ℕ) → Type 0
WellSpaced xs = AllByRecursion (λ x. Solid x.0 × (blank x.1 ≡ true)) xs

pub spaced_append : (xs ys : List (List ℕ × ℕ)) → spaced (xs ++ ys) ≡ spaced xs ++ spaced ys
spaced_append [] ys = refl
spaced_append (x ∷ xs) ys =
    ap (λ s. x.0 ++ (x.1 ∷ s)) (spaced_append xs ys) ∙ sym (append_assoc x.0 (x.1 ∷ spaced xs) (spaced ys))

pub words_spaced : (at : ℕ) (xs : List (List ℕ × ℕ)) → WellSpaced xs → map (λ w. w.1) (words_from at [] (spaced xs)) ≡ map (λ x. x.0) xs
words_spaced at [] h = refl
words_spaced at (x ∷ xs) h =
    ap (map (λ w. w.1)) (word_blank at x.0 x.1 (spaced xs) h.0.0 h.0.1)
    ∙ ap (λ ws. x.0 ∷ ws) (words_spaced (at + length x.0 + 1) xs h.1)

-- the same of a text, which begins with p
pub spellings_spaced : (xs : List (List ℕ × ℕ)) (bs : List ℕ) → WellSpaced xs → spaced xs ≡ 112 ∷ bs → spellings (spaced xs) ≡ map (λ x. x.0) xs
spellings_spaced xs bs h p =
    let bared : bare line_start (spaced xs) ≡ spaced xs = ap (bare line_start) p ∙ bare_p bs ∙ sym p in
    ap (λ s. map (λ w. w.1) (words_from 0 [] s)) bared ∙ words_spaced 0 xs h

each_token : (ws : List (ℕ × List ℕ)) → map (λ l. l.token) (map lexeme ws) ≡ map token_of (map (λ w. w.1) ws)
each_token [] = refl
each_token (w ∷ ws) = ap (λ ts. token_of w.1 ∷ ts) (each_token ws)

-- what the words say goes by the words alone
pub tokens_spelled : (text : List ℕ) → map (λ l. l.token) (lexemes text) ≡ map token_of (spellings text)
tokens_spelled text = each_token (words text)

solid_digits : (w : List ℕ) → numeric w ≡ true → AllByRecursion (λ b. blank b ≡ false) w
solid_digits [] h = tt
solid_digits (b ∷ bs) h = let p = and_parts (digit b) (numeric bs) h in (grind (arith, nat_tests), solid_digits bs p.1)

-- numbers are words as they may stand in a text
pub solid_decimal : (k : ℕ) → k < 100000 → Solid (decimal k)
solid_decimal k h = (decimal_nonempty k (omega arith), solid_digits (decimal k) (numeric_decimal k h))

pub solid_negative : (k : ℕ) → k < 100000 → Solid (45 ∷ decimal k)
solid_negative k h = (omega arith, (refl, solid_digits (decimal k) (numeric_decimal k h)))
