-- Cards as maps of literals: one after another. That one undoes another is said by the calculus.
use Rattle.std.specs.Prelude.{◌≡◌, ℕ}
use Rattle.laws.specs.Cards.{Card, act}

-- card does what first does, and then what second does
abbrev pub Joins : Card → Card → Card → Type 0
Joins card first second = (l : ℕ) → act card l ≡ act second (act first l)
