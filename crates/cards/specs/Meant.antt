-- The card of the calculus that a card is.
use Rattle.laws.specs.Cards.{Card as Exchange}
use Rattle.cards.specs.declared.card.Card.{Card}

-- its images, with the proof that they are a signed permutation
abbrev pub meant : Card → Exchange
meant c = record { images = c.images; long = c.long; none = c.none; codes = c.codes; apart = λ v w hv hw e. c.apart v w (hv, hw, e) }
