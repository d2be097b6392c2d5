-- What the theorems on words say.
use Rattle.std.specs.Prelude.{◌≡◌, ℕ, ◌<◌, ◌≤◌, ◌↔◌, List, ◌∷◌, ◌++◌, length, decimal}
use Rattle.words.specs.declared.token.Token.TheVariants.{Number, Negative}
use Rattle.words.specs.declared.token.Lexeme.{Lexeme}
use Rattle.words.specs.Tokens.{token_of}
use Rattle.words.specs.Words.{lexemes, Solid, Apart}

-- a word says a number just where it is that number in decimal digits, with a sign before it below zero
abbrev pub NumbersAreDecimals : Type 0
NumbersAreDecimals =
    (w : List ℕ) (k : ℕ)
    → ((token_of w ≡ Number k) ↔ ((k < 100000) × (w ≡ decimal k)))
    × ((token_of w ≡ Negative k) ↔ ((1 ≤ k) × (k < 100000) × (w ≡ 45 ∷ decimal k)))

-- texts that agree to the end of a word agree in every word up to that one, whatever stands behind
abbrev pub WordsBehindNeverMatter : Type 0
WordsBehindNeverMatter =
    (front word back back' : List ℕ) → Solid word → Apart back → Apart back'
    → (before : List Lexeme) (l : Lexeme) (after : List Lexeme)
    → lexemes (front ++ (word ++ back)) ≡ before ++ (l ∷ after) → l.place ≡ length front
    → (after' : List Lexeme) × (lexemes (front ++ (word ++ back')) ≡ before ++ (l ∷ after'))
