-- That every list of pairs comes to one outcome: a card or a fault, never both, and only one of either.
use Rattle.std.specs.Prelude.{◌≡◌, ℕ, ◌⊎◌, List}
use Rattle.laws.specs.Cards.{Card}
use Rattle.cards.specs.Pairs.{Makes, FirstFault}
use Rattle.cards.specs.declared.fault.CardFault.{CardFault}

-- the pairs make a card or have a first fault, and all cards that they make have the same images
pub record OneOutcome (pairs : List (ℕ × ℕ)) : Type 0 where
  pub some : ((card : Card) × Makes pairs card) ⊎ ((e : CardFault) × FirstFault pairs e)
  pub never_both : (card : Card) (e : CardFault) → Makes pairs card → FirstFault pairs e → ⊥
  pub one_fault : (e f : CardFault) → FirstFault pairs e → FirstFault pairs f → e ≡ f
  pub one_card : (card other : Card) → Makes pairs card → Makes pairs other → card.images ≡ other.images

-- so it is with all pairs
abbrev pub Outcomes : Type 0
Outcomes = (pairs : List (ℕ × ℕ)) → OneOutcome pairs
