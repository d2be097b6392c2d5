-- What is proved of the grammar.
use Rattle.std.specs.Prelude.{◌≡◌, ℕ, ◌↔◌, List, [], ◌∷◌, ◌++◌, length, Some, None}
use Rattle.words.specs.declared.token.Token.{Token}
use Rattle.words.specs.Words.{spellings, Solid, Apart}
use Rattle.calculus.specs.Meaning.{Meaning, Formed}
use Rattle.grammar.specs.declared.rule.Rule.{Rule}
use Rattle.grammar.specs.Draft.{Draft, spell}
use Rattle.grammar.specs.Lawful.{Sizes, Lawful}
use Rattle.grammar.specs.Fault.{fault}
use Rattle.grammar.specs.Outcome.{Reads, Faults, Outcome, ComesTo}

-- every text comes to exactly one outcome, with every size of memory
abbrev pub OneOutcome : Type 0
OneOutcome = (S : Sizes) (text : List ℕ) → (o : Outcome) × ComesTo S text o × ((p : Outcome) → ComesTo S text p → p ≡ o)

-- a formula that is read is well formed
abbrev pub ReadFormed : Type 0
ReadFormed = (S : Sizes) (text : List ℕ) (m : Meaning) → Reads S text m → Formed m

-- a word breaks no rule exactly where the draft with that word is a lawful one
abbrev pub WordsThatFollow : Type 0
WordsThatFollow =
    (S : Sizes) (d : Draft) (t : Token) → Lawful S d →
    (fault S d (Some t) ≡ None) ↔ ((e : Draft) × Lawful S e × (spell e ≡ spell d ++ (t ∷ [])))

-- texts with the same words behind the comments are the same formula
abbrev pub WordsDecide : Type 0
WordsDecide = (S : Sizes) (text other : List ℕ) → spellings text ≡ spellings other → (m : Meaning) → Reads S text m → Reads S other m

-- what stands behind the word of a fault never matters
abbrev pub BehindNeverMatters : Type 0
BehindNeverMatters =
    (S : Sizes) (front word back other : List ℕ) → Solid word → Apart back → Apart other → (rule : Rule) →
    Faults S (front ++ (word ++ back)) rule (length front) → Faults S (front ++ (word ++ other)) rule (length front)
