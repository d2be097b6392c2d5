-- Reading on: the words that have come are a lawful draft, and the state and the cells stand for it; others are left.
use Rattle.std.specs.Prelude.{◌≡◌, ℕ, List, ◌++◌, Ok, Err, Result}
use Rattle.words.specs.declared.token.Lexeme.{Lexeme}
use Rattle.words.specs.Words.{lexemes}
use Rattle.grammar.specs.declared.rule.TextFault.{TextFault}
use Rattle.grammar.specs.Draft.{Draft, spell}
use Rattle.grammar.specs.Lawful.{Lawful}
use Rattle.grammar.specs.Outcome.{tokens, Faults}
use Rattle.reading.specs.declared.state.State.{State}
use Rattle.reading.specs.Stands.{Stands, sizes}
use Rattle.text.specs.declared.outline.Outline.{Outline}
use Rattle.text.specs.Filled.{Holds}

pub record Going (text : List ℕ) (left : List Lexeme) (s : State) (literals ends : List ℕ) : Type 0 where
  pub draft : Draft
  pub before : List Lexeme
  pub parts : lexemes text ≡ before ++ left
  pub lawful : Lawful (sizes literals ends) draft
  pub spells : tokens before ≡ spell draft
  pub stands : Stands draft s literals ends

-- what is answered at the end; after a fault the cells hold something or other
abbrev pub CameTo : List ℕ → Result Outline TextFault → List ℕ → List ℕ → Type 0
CameTo text (Ok o) literals ends = Holds (sizes literals ends) text o literals ends
CameTo text (Err f) literals ends = Faults (sizes literals ends) text f.rule f.byte
