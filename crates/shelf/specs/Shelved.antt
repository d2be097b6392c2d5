-- What a shelf is: the clauses kept, line 0 first, and the three numbers that say what it can bear.
use Rattle.std.specs.Prelude.{◌≡◌, ℕ, ◌<◌, ◌≤◌, List, [], ◌∷◌, ◌++◌, length, drop, Result, MatchResult}
use Rattle.std.specs.List.{AllByRecursion}
use Rattle.laws.specs.Derivations.{line_of}
use Rattle.laws.specs.Store.{Store, weights, Room}
use Rattle.shelf.specs.Proper.{Proper}
use Rattle.shelf.specs.declared.fault.ShelfFault.{ShelfFault}
use Rattle.shelf.specs.declared.fault.ShelfFault.TheVariants.{Absent, Full}

pub record Shelved : Type 0 where
  pub store : Store
  pub kept : List (List ℕ)

-- the number under which a fault of a shelf is reported
abbrev pub shelf_number : ShelfFault → ℕ
shelf_number Absent = 32
shelf_number Full = 38

-- what every shelf keeps to: the three numbers within their bounds, no more kept than it can bear, and clauses in their one form
pub record Sound (s : Shelved) : Type 0 where
  pub base_low : 1 ≤ s.store.base
  pub base_high : s.store.base ≤ 64
  pub rate_high : s.store.rate ≤ 64
  pub few : length s.kept ≤ 8192
  pub light : weights s.store s.kept ≤ s.store.capacity
  pub proper : AllByRecursion Proper s.kept

-- the shelf with other clauses
abbrev pub holding : Shelved → List (List ℕ) → Shelved
holding s kept = record { store = s.store; kept = kept }

-- keeping C answers the number of its line and appends it where there is room; otherwise the shelf is full and stays as it was
abbrev pub Keeps : Shelved → List ℕ → Result ℕ ShelfFault → Shelved → Type 0
Keeps s C r t =
    MatchResult r (λ p. Room s.store s.kept C × (p ≡ length s.kept) × (t ≡ holding s (s.kept ++ (C ∷ []))))
    (λ e. (Room s.store s.kept C → ⊥) × (e ≡ Full) × (t ≡ s))

-- looking at line p answers how many literals it has, and copies them to the front of the place; a line that is not kept is absent, and
-- the place stays as it was
abbrev pub Looks : Shelved → ℕ → Result ℕ ShelfFault → List ℕ → List ℕ → Type 0
Looks s p r place copied =
    MatchResult r (λ k. (p < length s.kept) × (k ≡ length (line_of s.kept p)) × (copied ≡ line_of s.kept p ++ drop k place))
    (λ e. (length s.kept ≤ p) × (e ≡ Absent) × (copied ≡ place))
