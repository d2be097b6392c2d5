-- A small false formula, and a true one: the definitions at work.
use Rattle.std.specs.Prelude.{◌≡◌, true, false, [], ◌∷◌}
use Rattle.calculus.specs.Meaning.{Meaning, Formed}
use Rattle.calculus.specs.Truth.{truth}

-- some 1, all 2: (1 or 2) and (not 1 or not 2)
abbrev pub pair : Meaning
pair = record { n = 2; levels = 0 ∷ 1 ∷ 2 ∷ []; quantifiers = 0 ∷ 1 ∷ 2 ∷ []; clauses = (2 ∷ 4 ∷ []) ∷ (3 ∷ 5 ∷ []) ∷ [] }

-- the same clauses under all 1, some 2
abbrev pub turned_pair : Meaning
turned_pair = record { n = 2; levels = 0 ∷ 1 ∷ 2 ∷ []; quantifiers = 0 ∷ 2 ∷ 1 ∷ []; clauses = (2 ∷ 4 ∷ []) ∷ (3 ∷ 5 ∷ []) ∷ [] }

-- both are well formed; the first is false, and the second true
abbrev pub Examples : Type 0
Examples = Formed pair × (truth pair ≡ false) × Formed turned_pair × (truth turned_pair ≡ true)
