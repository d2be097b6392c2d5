-- A store by its three numbers, and whether it can bear one clause more.
use Rattle.std.specs.Prelude.{ℕ, ◌+◌, ◌*◌, ◌<◌, ◌≤◌}
use Rattle.laws.specs.Store as laws
use Rattle.shelf.specs.declared.store.Store.{Store}

-- the store of these numbers
abbrev pub store_of : Store → laws.Store
store_of s = record { capacity = s.capacity; base = s.base; rate = s.rate }

-- beside so many lines, which weigh so much, the store can bear a clause of l literals
abbrev pub Bears : laws.Store → ℕ → ℕ → ℕ → Type 0
Bears S lines heavy l = (lines < 8192) × (heavy + (S.base + S.rate * l) ≤ S.capacity)
