-- What an image means, by what the formula within it means.
use Rattle.calculus.specs.Meaning.{Meaning}
use Rattle.cards.specs.Meant.{meant}
use Rattle.images.specs.Imaged.{imaged}
use Rattle.images.specs.declared.image.Image.{Image}

abbrev pub formula_in : {F : Type 0} {B : _} → (F → Meaning) → Image F B → Meaning
formula_in meaning x = imaged (meant x.card) (meaning x.below)
