-- The words of a formula text, with their places.
use Rattle.std.specs.Prelude.{◌≡◌, ℕ, ◌+◌, ◌-◌, ◌≤◌, Bool, true, false, cond, ◌||◌, List, [], ◌∷◌, ◌++◌, map, length, ◌==◌}
use Rattle.std.specs.List.{AllByRecursion}
use Rattle.words.specs.declared.token.Lexeme.{Lexeme}
use Rattle.words.specs.Tokens.{token_of}

-- the bytes that part words: tab, line feed, carriage return, space
abbrev pub blank : ℕ → Bool
blank b = b == 9 || (b == 10 || (b == 13 || b == 32))

-- where a byte stands: at the start of a line or behind blanks alone, with no word so far; in a comment; behind a word's first byte
pub data Region : Type 0 where
  line_start : Region
  indented : Region
  comment : Region
  body : Region

-- behind a line feed a line starts, and behind another blank it is indented; any other byte begins a word
abbrev pub behind : ℕ → Region
behind b = cond (b == 10) line_start (cond (blank b) indented body)

-- the region behind the byte b: a line that begins with c is a comment, as long as no word stands before it
abbrev pub next : Region → ℕ → Region
next line_start b = cond (b == 99) comment (behind b)
next indented b = behind b
next comment b = cond (b == 10) line_start comment
next body b = body

-- the byte b of a region as it is read: those of comments are blanks
abbrev pub seen : Region → ℕ → ℕ
seen line_start b = cond (b == 99) 32 b
seen indented b = b
seen comment b = 32
seen body b = b

-- a text with its comments blanked out
abbrev pub bare : Region → List ℕ → List ℕ
bare r [] = []
bare r (b ∷ bs) = seen r b ∷ bare (next r b) bs

-- a word that ends before the offset at, unless it has no byte
abbrev pub ended : ℕ → List ℕ → List (ℕ × List ℕ)
ended at [] = []
ended at (b ∷ bs) = (at - length (b ∷ bs), b ∷ bs) ∷ []

-- the words of the bytes from the offset at on, where the bytes w directly before them are a word's beginning;
-- each with its place, the offset of its first byte
abbrev pub words_from : ℕ → List ℕ → List ℕ → List (ℕ × List ℕ)
words_from at w [] = ended at w
words_from at w (b ∷ bs) = cond (blank b) (ended at w ++ words_from (at + 1) [] bs) (words_from (at + 1) (w ++ (b ∷ [])) bs)

-- the words of a text
abbrev pub words : List ℕ → List (ℕ × List ℕ)
words text = words_from 0 [] (bare line_start text)

abbrev pub lexeme : ℕ × List ℕ → Lexeme
lexeme w = record { place = w.0; token = token_of w.1 }

-- what the words of a text say, with their places
abbrev pub lexemes : List ℕ → List Lexeme
lexemes text = map lexeme (words text)

-- the words alone
abbrev pub spellings : List ℕ → List (List ℕ)
spellings text = map (λ w. w.1) (words text)

-- a word as it may stand in a text: some bytes, none of them blank
abbrev pub Solid : List ℕ → Type 0
Solid w = (1 ≤ length w) × AllByRecursion (λ b. blank b ≡ false) w

-- bytes before which a word ends
abbrev pub Apart : List ℕ → Type 0
Apart [] = Unit {0}
Apart (b ∷ bs) = blank b ≡ true
