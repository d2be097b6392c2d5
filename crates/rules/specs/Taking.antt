-- Literals taken to others, or to none.
use Rattle.std.specs.Prelude.{◌≡◌, ℕ, Option, MatchOption}
use Rattle.calculus.specs.Meaning.{Code}

-- the calls that these are the results of compute h at literals, and give literals
abbrev pub TakesTo : (ℕ → Option ℕ → Type 0) → (ℕ → Option ℕ) → Type 0
TakesTo gives h = (l : ℕ) (r : Option ℕ) → Code 512 l → gives l r → (r ≡ h l) × MatchOption r (Unit {0}) (Code 512)
