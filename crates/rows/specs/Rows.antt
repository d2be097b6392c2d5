-- How clauses lie in rows of sixteen words, one bit for each variable and sign.
use mathlib.Core.HLevel.{Π_prop, ⊥_prop}
use Rattle.std.specs.Prelude.{ℕ, ◌/◌, List, map, length, take}
use Rattle.std.specs.Simd.{first_chunks}
use Rattle.calculus.specs.Literals.{Tautological}
use Rattle.laws.specs.Store.{Store}
use Rattle.shelf.specs.Shelved.{Shelved}
use Rattle.sets.specs.Members.{members}

-- no literal of the row comes with its negation
abbrev pub NoTautology : List ℕ → Type 0
NoTautology row = Tautological (members row) → ⊥

pub no_tautology_prop : (row : List ℕ) → IsProp (NoTautology row)
no_tautology_prop row = Π_prop (λ t. ⊥_prop)

-- the whole rows of these words: words behind the last of them are in none
abbrev pub rows_in : List ℕ → List (List ℕ)
rows_in words = first_chunks 16 (length words / 16) words

-- the clauses of the first rows, row 0 first
abbrev pub clauses_in : List (List ℕ) → ℕ → List (List ℕ)
clauses_in rows count = map members (take count rows)

-- a store of n rows: each holds one clause of any length
abbrev pub row_store : ℕ → Store
row_store n = record { capacity = n; base = 1; rate = 0 }

-- the shelf of the whole rows of these words, whose clauses are in the first ones
abbrev pub shelved : List ℕ → ℕ → Shelved
shelved words count = record { store = row_store (length words / 16); kept = clauses_in (rows_in words) count }
