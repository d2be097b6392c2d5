-- What space is worth: clauses that there is space for are all kept.
use Rattle.std.specs.Prelude.{◌≡◌, ℕ, ◌≤◌, List, [], ◌∷◌, map, length, Ok, Result}
use Rattle.std.specs.List.{range_with_len, AllByRecursion}
use Rattle.laws.specs.Store.{Space}
use Rattle.shelf.specs.Shelved.{Shelved, holding, Keeps}
use Rattle.shelf.specs.declared.fault.ShelfFault.{ShelfFault}

-- the clauses are kept one after the other, with these answers
abbrev pub KeepsEach : Shelved → List (List ℕ) → List (Result ℕ ShelfFault) → Shelved → Type 0
KeepsEach s [] [] t = s ≡ t
KeepsEach s [] (r ∷ rs) t = ⊥
KeepsEach s (C ∷ Cs) [] t = ⊥
KeepsEach s (C ∷ Cs) (r ∷ rs) t = (u : Shelved) × Keeps s C r u × KeepsEach u Cs rs t

-- from an empty shelf with space for k clauses of l literals, at most k clauses of at most l literals each are all kept, as lines 0, 1 and so on
abbrev pub SpaceSuffices : Type 0
SpaceSuffices =
    (s : Shelved) (k l : ℕ) → Space s.store k l → (Cs : List (List ℕ)) → length Cs ≤ k → AllByRecursion (λ C. length C ≤ l) Cs →
    (rs : List (Result ℕ ShelfFault)) (t : Shelved) → KeepsEach (holding s []) Cs rs t → (rs ≡ map Ok (range_with_len 0 (length Cs))) × (t ≡ holding s Cs)
