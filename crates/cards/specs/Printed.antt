-- How a fault of a card is printed.
use Rattle.std.specs.Prelude.{ℕ, List, ◌++◌, codes, decimal}
use Rattle.cards.specs.declared.fault.CardFault.{CardFault}
use Rattle.cards.specs.declared.fault.CardFault.TheVariants.{Many, Variable, Image, Unnamed}

-- what does not fit, and the place of its pair
abbrev pub fault_text : CardFault → List ℕ
fault_text Many = codes "more than 512 pairs"
fault_text (Variable k) = codes "the variable of pair " ++ decimal k ++ codes " does not fit"
fault_text (Image k) = codes "the image of pair " ++ decimal k ++ codes " does not fit"
fault_text (Unnamed k) = codes "no pair names the variable of image " ++ decimal k
