-- Where the clauses lie in cells that fit.
use Rattle.std.proofs.Common.{◌≡◌, ℕ, zero, suc, ◌<◌, ◌≤◌, true, leb, List, [], ◌∷◌, length, get_or, take, refl, ap, ◌∙◌, arith}
use Rattle.std.proofs.lemmas.List.{get_or-take, length-take-le}
use Rattle.std.proofs.lemmas.Bool.{and_parts, leb-true}
use Rattle.text.specs.Cells.{cut, cuts, lies, fits}

-- there are as many clauses as ends
pub cuts_length : (literals : List ℕ) (from : ℕ) (ends : List ℕ) → length (cuts literals from ends) ≡ length ends
cuts_length literals from [] = refl
cuts_length literals from (end ∷ ends) = ap suc (cuts_length literals end ends)

-- clause j lies from the end before it to its own
pub cuts_at : (literals : List ℕ) (from : ℕ) (ends : List ℕ) (j : ℕ) → j < length ends → get_or (cuts literals from ends) j [] ≡ cut literals (get_or (from ∷ ends) j 0) (get_or ends j 0)
cuts_at literals from [] j h = absurd (omega arith)
cuts_at literals from (end ∷ ends) zero h = refl
cuts_at literals from (end ∷ ends) (suc j) h = cuts_at literals end ends j (omega arith)

-- where the cells fit, each of their clauses does
pub fits_at : (n : ℕ) (literals : List ℕ) (from : ℕ) (ends : List ℕ) → fits n literals from ends ≡ true → (j : ℕ) → j < length ends → lies n literals (get_or (from ∷ ends) j 0) (get_or ends j 0) ≡ true
fits_at n literals from [] f j h = absurd (omega arith)
fits_at n literals from (end ∷ ends) f zero h = (and_parts _ _ f).0
fits_at n literals from (end ∷ ends) f (suc j) h = fits_at n literals end ends (and_parts _ _ f).1 j (omega arith)

lies_within : (n : ℕ) (literals : List ℕ) (from end : ℕ) → lies n literals from end ≡ true → (from ≤ end) × (end ≤ length literals)
lies_within n literals from end h =
    let p = and_parts (leb from end) (leb end (length literals)) (and_parts _ _ h).0 in
    (leb-true from end p.0, leb-true end (length literals) p.1)

module _ (literals ends : List ℕ) (count : ℕ) (held : count ≤ length ends) where
  pub listed : length (cuts literals 0 (take count ends)) ≡ count
  listed = cuts_length literals 0 (take count ends) ∙ length-take-le count ends held

  -- the bounds of clause j, and what lies between them
  pub spanned : (n j : ℕ) → fits n literals 0 (take count ends) ≡ true → j < count → (get_or (0 ∷ ends) j 0 ≤ get_or ends j 0) × (get_or ends j 0 ≤ length literals) × (get_or (cuts literals 0 (take count ends)) j [] ≡ cut literals (get_or (0 ∷ ends) j 0) (get_or ends j 0))
  spanned n j fit h =
      let k : j < length (take count ends) = rw (length-take-le count ends held) h in
      let s : get_or (0 ∷ take count ends) j 0 ≡ get_or (0 ∷ ends) j 0 = get_or-take (suc count) (0 ∷ ends) j 0 (omega arith) in
      let e : get_or (take count ends) j 0 ≡ get_or ends j 0 = get_or-take count ends j 0 h in
      let b = rw (s, e) at (lies_within n literals _ _ (fits_at n literals 0 (take count ends) fit j k)) in
      (b.0, b.1, rw (← s, ← e) (cuts_at literals 0 (take count ends) j k))
