-- What a text comes to: its formula, or the first fault from the left.
use Rattle.std.specs.Prelude.{◌≡◌, ℕ, List, [], ◌∷◌, ◌++◌, map, length, Some, None}
use Rattle.words.specs.declared.token.Token.{Token}
use Rattle.words.specs.declared.token.Lexeme.{Lexeme}
use Rattle.words.specs.Words.{lexemes}
use Rattle.calculus.specs.Meaning.{Meaning}
use Rattle.grammar.specs.declared.rule.Rule.{Rule}
use Rattle.grammar.specs.Draft.{Block, Draft, matrix, spell, formula_of}
use Rattle.grammar.specs.Lawful.{Sizes, AllBound, Lawful}
use Rattle.grammar.specs.Next.{Next}
use Rattle.grammar.specs.Fault.{fault}

abbrev pub tokens : List Lexeme → List Token
tokens ls = map (λ l. l.token) ls

-- the text is the words of a lawful draft in which every variable is bound and the clauses are as many as the header says; m is its formula
pub record Reads (S : Sizes) (text : List ℕ) (m : Meaning) : Type 0 where
  pub n : ℕ
  pub blocks : List Block
  pub clauses : List (List ℕ)
  pub lawful : Lawful S (matrix n (length clauses) blocks clauses [])
  pub bound : AllBound n blocks
  pub spells : tokens (lexemes text) ≡ spell (matrix n (length clauses) blocks clauses [])
  pub formula : m ≡ formula_of n blocks clauses

-- what stands first in the words that are left, and where
abbrev pub next_of : List Lexeme → Next
next_of [] = None
next_of (l ∷ ls) = Some l.token

abbrev pub place_of : List ℕ → List Lexeme → ℕ
place_of text [] = length text
place_of text (l ∷ ls) = l.place

-- the words before the offset at are a lawful draft, and what stands there, a word or the end of the text, breaks the rule
pub record Faults (S : Sizes) (text : List ℕ) (rule : Rule) (at : ℕ) : Type 0 where
  pub draft : Draft
  pub before : List Lexeme
  pub behind : List Lexeme
  pub parts : lexemes text ≡ before ++ behind
  pub lawful : Lawful S draft
  pub spells : tokens before ≡ spell draft
  pub breaks : fault S draft (next_of behind) ≡ Some rule
  pub place : at ≡ place_of text behind

pub data Outcome : Type 0 where
  formula : Meaning → Outcome
  refused : Rule → ℕ → Outcome

-- what a text comes to, with these sizes of memory
abbrev pub ComesTo : Sizes → List ℕ → Outcome → Type 0
ComesTo S text (formula m) = Reads S text m
ComesTo S text (refused rule at) = Faults S text rule at
