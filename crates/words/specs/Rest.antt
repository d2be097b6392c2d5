-- What is still to be read of a text.
use Rattle.std.specs.Prelude.{◌≡◌, ℕ, ◌<◌, ◌≤◌, Bool, true, false, not, List, [], ◌∷◌, map, length, drop, IfSome, Option}
use Rattle.std.specs.Iterator.{YieldsFirst}
use Rattle.words.specs.declared.token.Lexeme.{Lexeme}
use Rattle.words.specs.declared.reader.Words.{Words}
use Rattle.words.specs.Words.{blank, words_from, lexeme}

-- the bytes of a run of blanks, and those of a word
abbrev pub in_run : Bool → ℕ → Bool
in_run true b = blank b
in_run false b = not (blank b)

-- the words of a text from an offset on
abbrev pub lexemes_from : ℕ → List ℕ → List Lexeme
lexemes_from at text = map lexeme (words_from at [] (drop at text))

-- l is the first word from an offset on, and those behind it come from the offset end on
pub record First (at : ℕ) (text : List ℕ) (l : Lexeme) (end : ℕ) : Type 0 where
  pub words : lexemes_from at text ≡ l ∷ lexemes_from end text
  pub place : l.place < length text
  pub within : end ≤ length text

-- the words from the offset on that reading has come to
abbrev pub rest : Words → List Lexeme
rest w = lexemes_from w.at w.text.now

-- the whole text
abbrev pub text_of : Words → List ℕ
text_of w = w.text.now

-- reading gives the first word that is left, which begins in the text, and leaves the others; of no word it leaves none
abbrev pub Gives : Words → Option Lexeme → Words → Type 0
Gives w given v = YieldsFirst rest w given v × IfSome given (λ l. l.place < length (text_of w)) × (text_of v ≡ text_of w)
