-- Clauses that there is space for are kept one after the other.
use Rattle.std.proofs.Common.{◌≡◌, ℕ, suc, ◌+◌, ◌*◌, ◌<◌, ◌≤◌, List, [], ◌∷◌, ◌++◌, map, length, Ok, Err, Result, sym, refl, ap, ◌∙◌, subst, ap₂, mul-le-mul_right, suc-mul, mul-le-mul_left, arith}
use Rattle.std.specs.List.{range_with_len, AllByRecursion}
use Rattle.std.proofs.lemmas.List.{append_assoc, append-nil, length_push}
use Rattle.laws.specs.Store.{Store, weight, weights, Room, Space}
use Rattle.shelf.specs.Shelved.{Shelved, holding}
use Rattle.shelf.specs.Space.{KeepsEach, SpaceSuffices}
use Rattle.shelf.specs.declared.fault.ShelfFault.{ShelfFault}

-- a clause more adds its weight
pub weights_push : (S : Store) (Cs : List (List ℕ)) (C : List ℕ) → weights S (Cs ++ C ∷ []) ≡ weights S Cs + weight S C
weights_push S [] C = omega arith
weights_push S (D ∷ Cs) C = omega (arith, weights_push S Cs C)

module _ (s : Shelved) (k l : ℕ) (space : Space s.store k l) where
  -- what a clause of l literals weighs
  most : ℕ
  most = s.store.base + s.store.rate * l

  within : (C : List ℕ) → length C ≤ l → weight s.store C ≤ most
  unfolding most
  within C short = omega (arith, mul-le-mul_left s.store.rate short)

  has_room : (kept : List (List ℕ)) (C : List ℕ) → length kept < k → weights s.store kept ≤ length kept * most → length C ≤ l → Room s.store kept C
  unfolding most
  has_room kept C lt light short = (
    omega (arith, space.0),
    omega (arith, light, within C short, suc-mul (length kept) most, mul-le-mul_right most lt, space.1),
  )

  keeps_all :
      (kept Cs : List (List ℕ)) → length kept + length Cs ≤ k → weights s.store kept ≤ length kept * most → AllByRecursion (λ C. length C ≤ l) Cs →
      (rs : List (Result ℕ ShelfFault)) (t : Shelved) → KeepsEach (holding s kept) Cs rs t →
      (rs ≡ map Ok (range_with_len (length kept) (length Cs))) × (t ≡ holding s (kept ++ Cs))
  keeps_all kept [] few light short [] t e = (refl, sym e ∙ ap (holding s) (sym (append-nil kept)))
  keeps_all kept [] few light short (r ∷ rs) t h = absurd h
  keeps_all kept (C ∷ Cs) few light short [] t h = absurd h
  keeps_all kept (C ∷ Cs) few light short (Err e ∷ rs) t (u, (none, f, g), h) = absurd (none (has_room kept C (omega arith) light short.0))
  keeps_all kept (C ∷ Cs) few light short (Ok p ∷ rs) t (u, (here, e, g), h) =
      let more : length (kept ++ C ∷ []) ≡ length kept + 1 = length_push kept C in
      let heavy : weights s.store (kept ++ C ∷ []) ≤ length (kept ++ C ∷ []) * most =
      subst (λ n. weights s.store (kept ++ C ∷ []) ≤ n * most) (let f : suc (length kept) ≡ length (kept ++ C ∷ []) = omega arith in f)
      (omega (arith, weights_push s.store kept C, within C short.0, suc-mul (length kept) most)) in
      let r : _ × _ = keeps_all (kept ++ C ∷ []) Cs (omega arith) heavy short.1 rs t (subst (λ v. KeepsEach v Cs rs t) g h) in
      (ap₂ (λ x xs. Ok x ∷ xs) e (r.0 ∙ ap (λ n. map Ok (range_with_len n (length Cs))) more), r.1 ∙ ap (holding s) (append_assoc kept (C ∷ []) Cs))

-- from an empty shelf
pub space_suffices : SpaceSuffices
space_suffices s k l space Cs few short rs t h = keeps_all s k l space [] Cs (omega arith) (omega arith) short rs t h
