-- An array made by calls at each of its places.
use Rattle.std.proofs.Common.{◌≡◌, ℕ, zero, suc, ◌+◌, ◌<◌, ◌≤◌, List, get_or, ◌∙◌, sym, subst, ⊎_elim, arith}
use Rattle.std.specs.Fn.{Called}
use Rattle.std.specs.Array.{IsFromFnResult, IsFromFnResultFrom}
use Rattle.std.proofs.lemmas.Bool.{cases_eq}
use denote.Param.Members.{Mut}

module _ {F B : Type 0} (g : Mut F (ℕ × Unit {0}) B) (value : ℕ → B) (f : F) (call : (i : ℕ) (y : B) (q : F) → Called g f (i, tt) y q → (q ≡ f) × (y ≡ value i)) (ys : List B) (d : B) where
  from_place : (n i : ℕ) → IsFromFnResultFrom g f ys i n → (k : ℕ) → i ≤ k → k < i + n → get_or ys k d ≡ value k
  from_place zero i calls k a b = absurd (omega arith)
  from_place (suc n) i (q, y, at, called, more) k a b =
      let r : (q ≡ f) × (y ≡ value i) = call i y q called in
      ⊎_elim (λ e. subst (λ (j : ℕ). get_or ys j d ≡ value j) (sym e) (at.1 d ∙ r.1))
      (λ o. from_place n (i + 1) (subst (λ p. IsFromFnResultFrom g p ys (i + 1) n) r.0 more) k (omega arith) (omega arith)) (cases_eq k i)

  -- a closure that computes a function, and stays as it is, gives its value at each place
  pub from_calls : (n : ℕ) → IsFromFnResult g f ys n → (k : ℕ) → k < n → get_or ys k d ≡ value k
  from_calls n made k h = from_place n 0 made.each k (omega arith) (omega arith)
