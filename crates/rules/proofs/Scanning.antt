-- The tests of whole lists are the library's.
use Rattle.std.proofs.Common.{◌≡◌, ℕ, Bool, true, ◌&&◌, ◌||◌, eqb, ◌↔◌, List, [], ◌∷◌, sym, refl, ap, ◌∙◌}
use Rattle.std.specs.List.{list_any, list_all}
use Rattle.calculus.specs.Sets.{◌∈◌, has}
use Rattle.laws.specs.Claims.{every}
use Rattle.laws.proofs.Sets.{has_true, has_from}

pub any_has : (l : ℕ) (xs : List ℕ) → list_any (eqb l) xs ≡ has l xs
any_has l [] = refl
any_has l (x ∷ xs) = ap (λ b. eqb l x || b) (any_has l xs)

pub all_every : (f : ℕ → Bool) (xs : List ℕ) → list_all f xs ≡ every f xs
all_every f [] = refl
all_every f (x ∷ xs) = ap (λ b. f x && b) (all_every f xs)

pub has_is : (l : ℕ) (C : List ℕ) (r : Bool) → r ≡ has l C → (r ≡ true) ↔ (l ∈ C)
has_is l C r e = (λ h. has_true l C (sym e ∙ h), λ i. e ∙ has_from l C i)
