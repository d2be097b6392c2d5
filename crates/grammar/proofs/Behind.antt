-- What stands behind the word of a fault never matters.
use Rattle.std.proofs.Common.{◌≡◌, ℕ, List, [], ◌∷◌, ◌++◌, length, Some, sym, arith}
use Rattle.std.proofs.lemmas.List.{length-append}
use Rattle.words.specs.declared.token.Lexeme.{Lexeme}
use Rattle.words.specs.Words.{lexemes, Solid, Apart}
use Rattle.words.proofs.Causal.{words_behind_never_matter}
use Rattle.grammar.specs.declared.rule.Rule.{Rule}
use Rattle.grammar.specs.Draft.{Draft, spell}
use Rattle.grammar.specs.Lawful.{Sizes, Lawful}
use Rattle.grammar.specs.Fault.{fault}
use Rattle.grammar.specs.Outcome.{tokens, next_of, place_of, Faults}
use Rattle.grammar.specs.Theorems.{BehindNeverMatters}

-- a fault at the first byte of a word is not at the text's end, so it is at a word, which stands in the other text too
module _ (S : Sizes) (front word back other : List ℕ) (solid : Solid word) (a : Apart back) (b : Apart other) (rule : Rule) where
  moved :
      (d : Draft) (before behind : List Lexeme) → lexemes (front ++ (word ++ back)) ≡ before ++ behind → Lawful S d → tokens before ≡ spell d →
      fault S d (next_of behind) ≡ Some rule → length front ≡ place_of (front ++ (word ++ back)) behind →
      Faults S (front ++ (word ++ other)) rule (length front)
  moved d before [] parts h e f at =
      absurd (omega (arith, solid.0, at, length-append front (word ++ back), length-append word back))
  moved d before (l ∷ ls) parts h e f at =
      let w = words_behind_never_matter front word back other solid a b before l ls parts (sym at) in
      record { draft = d; before = before; behind = l ∷ w.0; parts = w.1; lawful = h; spells = e; breaks = f; place = at }

pub behind_never_matters : BehindNeverMatters
behind_never_matters S front word back other solid a b rule r =
    moved S front word back other solid a b rule r.draft r.before r.behind r.parts r.lawful r.spells r.breaks r.place
