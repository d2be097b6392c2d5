-- Room for a clause, by the number of lines and their weight.
use Rattle.std.proofs.Common.{◌≡◌, ℕ, Bool, true, ◌↔◌, List, length, sym, subst}
use Rattle.laws.specs.Store as laws
use Rattle.shelf.specs.Stores.{Bears}

-- a test of the numbers is a test of the room
pub room_is :
    (S T : laws.Store) (kept : List (List ℕ)) (C : List ℕ) (lines heavy : ℕ) (b : Bool) → T ≡ S → length kept ≡ lines → laws.weights S kept ≡ heavy →
    (b ≡ true) ↔ Bears T lines heavy (length C) → (b ≡ true) ↔ laws.Room S kept C
room_is S T kept C lines heavy b e long weighed h =
    subst (λ k. (b ≡ true) ↔ Bears S k (laws.weights S kept) (length C)) (sym long)
    (subst (λ w. (b ≡ true) ↔ Bears S lines w (length C)) (sym weighed) (subst (λ U. (b ≡ true) ↔ Bears U lines heavy (length C)) e h))
