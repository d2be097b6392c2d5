-- What the words of a written text say.
use Rattle.std.proofs.Common.{◌≡◌, ℕ, ◌/◌, ◌%◌, ◌<◌, ◌≤◌, Bool, true, false, cond, eqb, List, [], ◌∷◌, ◌++◌, map, length, codes, decimal, sym, refl, ap, ◌∙◌, append_assoc, arith}
use Rattle.std.specs.List.{flat_map, AllByRecursion}
use Rattle.std.proofs.ByRecursion.{All-append}
use Rattle.std.proofs.lemmas.List.{map-append}
use Rattle.calculus.specs.Meaning.{Meaning, Code}
use Rattle.grammar.specs.Draft.{letter, literal_word, header_words}
use Rattle.grammar.specs.Outcome.{tokens}
use Rattle.words.specs.declared.token.Token.{Token}
use Rattle.words.specs.declared.token.Token.TheVariants.{Problem, Cnf, Exists, Forall, Number, Negative}
use Rattle.words.specs.Tokens.{token_of}
use Rattle.words.specs.Words.{blank, lexemes, Solid}
use Rattle.words.proofs.Spacing.{spaced, WellSpaced, spaced_append, spellings_spaced, tokens_spelled, solid_decimal, solid_negative}
use Rattle.words.proofs.Tokens.{number_of_decimal, negative_of_decimal}
use Rattle.writer.specs.Written.{header_line, letter_byte, literal_text, variable_text, clause_line}

-- a text that is made of words with a blank behind each, and what those say
pub record Says (text : List ℕ) (said : List Token) : Type 0 where
  pub pieces : List (List ℕ × ℕ)
  pub well : WellSpaced pieces
  pub whole : spaced pieces ≡ text
  pub each : map (λ x. token_of x.0) pieces ≡ said

pub says_none : Says [] []
says_none = record { pieces = []; well = tt; whole = refl; each = refl }

pub says_then : {a b : List ℕ} {s t : List Token} → Says a s → Says b t → Says (a ++ b) (s ++ t)
says_then {a} {b} {s} {t} f g =
    record {
      pieces = f.pieces ++ g.pieces;
      well = All-append (λ x. Solid x.0 × (blank x.1 ≡ true)) f.pieces g.pieces f.well g.well;
      whole = spaced_append f.pieces g.pieces ∙ (ap (λ x. x ++ spaced g.pieces) f.whole ∙ ap (λ x. a ++ x) g.whole);
      each = map-append (λ x. token_of x.0) f.pieces g.pieces
          ∙ (ap (λ x. x ++ map (λ x. token_of x.0) g.pieces) f.each ∙ ap (λ x. s ++ x) g.each);
    }

-- one word and a blank
pub says_word : (w : List ℕ) (b : ℕ) (t : Token) → Solid w → blank b ≡ true → token_of w ≡ t → Says (w ++ (b ∷ [])) (t ∷ [])
says_word w b t s e h =
    record { pieces = (w, b) ∷ []; well = ((s, e), tt); whole = refl; each = ap (λ x. x ∷ []) h }

pub says_as : {a b : List ℕ} {s t : List Token} → a ≡ b → s ≡ t → Says a s → Says b t
says_as e h f = record { pieces = f.pieces; well = f.well; whole = f.whole ∙ e; each = f.each ∙ h }

-- one element after the other
pub says_joined : {X : Type 0} (P : X → Type 0) (f : X → List ℕ) (g : X → List Token) → ((x : X) → P x → Says (f x) (g x)) →
    (xs : List X) → AllByRecursion P xs → Says (flat_map f xs) (flat_map g xs)
says_joined P f g each [] h = says_none
says_joined P f g each (x ∷ xs) h = says_then (each x h.0) (says_joined P f g each xs h.1)

each_first : (xs : List (List ℕ × ℕ)) → map token_of (map (λ x. x.0) xs) ≡ map (λ x. token_of x.0) xs
each_first [] = refl
each_first (x ∷ xs) = ap (λ ts. token_of x.0 ∷ ts) (each_first xs)

-- a text that begins with p has no comments, so that all of its words are read
pub says_tokens : (bs : List ℕ) (said : List Token) → Says (112 ∷ bs) said → tokens (lexemes (112 ∷ bs)) ≡ said
says_tokens bs said f =
    ap (λ text. tokens (lexemes text)) (sym f.whole)
    ∙ (tokens_spelled (spaced f.pieces)
    ∙ (ap (map token_of) (spellings_spaced f.pieces bs f.well f.whole) ∙ (each_first f.pieces ∙ f.each)))

pub says_number : (k b : ℕ) → k < 100000 → blank b ≡ true → Says (decimal k ++ (b ∷ [])) (Number k ∷ [])
says_number k b h e = says_word (decimal k) b (Number k) (solid_decimal k h) e (number_of_decimal k h)

signed_number : (b : Bool) (k : ℕ) → 1 ≤ k → k < 100000 →
    Says (cond b [] (45 ∷ []) ++ (decimal k ++ (32 ∷ []))) (cond b (Number k) (Negative k) ∷ [])
signed_number true k some h = says_number k 32 h refl
signed_number false k some h = says_word (45 ∷ decimal k) 32 (Negative k) (solid_negative k h) refl (negative_of_decimal k some h)

pub says_literal : (n l : ℕ) → n ≤ 512 → Code n l → Says (literal_text l) (literal_word l ∷ [])
says_literal n l few h = signed_number (eqb (l % 2) 0) (l / 2) (omega arith) (omega arith)

-- the spaces stand before the variables; read with the words before them
pub shifted : (vs zs : List ℕ) → flat_map variable_text vs ++ (32 ∷ zs) ≡ 32 ∷ (flat_map (λ v. decimal v ++ (32 ∷ [])) vs ++ zs)
shifted [] zs = refl
shifted (v ∷ vs) zs =
    ap (λ xs. 32 ∷ xs)
    (append_assoc (decimal v) (flat_map variable_text vs) (32 ∷ zs)
    ∙ (ap (λ xs. decimal v ++ xs) (shifted vs zs)
    ∙ (sym (append_assoc (decimal v) (32 ∷ []) (flat_map (λ v. decimal v ++ (32 ∷ [])) vs ++ zs))
    ∙ sym (append_assoc (decimal v ++ (32 ∷ [])) (flat_map (λ v. decimal v ++ (32 ∷ [])) vs) zs))))

letter_says : (b : Bool) → Says (cond b 101 97 ∷ 32 ∷ []) (cond b Exists Forall ∷ [])
letter_says true = says_word (101 ∷ []) 32 Exists (omega arith, (refl, tt)) refl refl
letter_says false = says_word (97 ∷ []) 32 Forall (omega arith, (refl, tt)) refl refl

-- a letter, the variables, and 0
pub says_block : (q : ℕ) (vs : List ℕ) → AllByRecursion (λ v. v < 100000) vs →
    Says (letter_byte q ∷ (flat_map variable_text vs ++ codes " 0\n")) (letter q ∷ (flat_map (λ v. Number v ∷ []) vs ++ (Number 0 ∷ [])))
says_block q vs h =
    says_as (ap (λ xs. letter_byte q ∷ xs) (sym (shifted vs (48 ∷ 10 ∷ [])))) refl
    (says_then (letter_says (eqb q 1)) (says_then (says_joined (λ v. v < 100000) (λ v. decimal v ++ (32 ∷ [])) (λ v. Number v ∷ []) (λ v l. says_number v 32 l refl) vs h) (says_word (48 ∷ []) 10 (Number 0) (omega arith, (refl, tt)) refl refl)))

pub says_clause : (n : ℕ) (C : List ℕ) → n ≤ 512 → AllByRecursion (Code n) C → Says (clause_line C) (flat_map (λ l. literal_word l ∷ []) C ++ (Number 0 ∷ []))
says_clause n C few h =
    says_then (says_joined (Code n) literal_text (λ l. literal_word l ∷ []) (λ l c. says_literal n l few c) C h)
    (says_word (48 ∷ []) 10 (Number 0) (omega arith, (refl, tt)) refl refl)

pub says_header : (m : Meaning) → m.n ≤ 512 → length m.clauses ≤ 2048 → Says (header_line m) (header_words m.n (length m.clauses))
says_header m few short =
    says_then (says_word (112 ∷ []) 32 Problem (omega arith, (refl, tt)) refl refl)
    (says_then (says_word (99 ∷ 110 ∷ 102 ∷ []) 32 Cnf (omega arith, (refl, (refl, (refl, tt)))) refl refl)
    (says_as (append_assoc (decimal m.n) (32 ∷ []) (decimal (length m.clauses) ++ (10 ∷ []))) refl
    (says_then (says_number m.n 32 (omega arith) refl) (says_number (length m.clauses) 10 (omega arith) refl))))
