-- Every row shelf keeps to the bounds of a shelf.
use Rattle.std.specs.Prelude.{◌≡◌, ℕ, zero, suc, ◌/◌, ◌≤◌, List, [], ◌∷◌, length, refl}
use Rattle.std.proofs.Common.{map, take, drop, ap, arith, length-take}
use Rattle.std.proofs.lemmas.List.{length-map}
use Rattle.std.specs.List.{AllByRecursion}
use Rattle.std.specs.Simd.{first_chunks}
use Rattle.laws.specs.Store.{weights}
use Rattle.shelf.specs.Proper.{Proper}
use Rattle.shelf.specs.Shelved.{Sound}
use Rattle.sets.specs.Members.{members}
use Rattle.sets.proofs.Elements.{asc_members}
use Rattle.sets.proofs.Sorted.{codes_members}
use Rattle.rows.specs.Rows.{NoTautology, row_store, rows_in, clauses_in, shelved}

-- clauses weigh one row each
pub weights_rows : (n : ℕ) (Cs : List (List ℕ)) → weights (row_store n) Cs ≡ length Cs
weights_rows n [] = refl
weights_rows n (C ∷ Cs) = omega (arith, weights_rows n Cs)

-- as many chunks as are asked for
pub chunks_length : {X : Type 0} (n k : ℕ) (xs : List X) → length (first_chunks n k xs) ≡ k
chunks_length n zero xs = refl
chunks_length n (suc k) xs = ap suc (chunks_length n k (drop n xs))

-- as many clauses as rows
pub rows_length : (words : List ℕ) (count : ℕ) → count ≤ length words / 16 → length (clauses_in (rows_in words) count) ≡ count
rows_length words count within =
    omega (arith, chunks_length 16 (length words / 16) words, length-map (take count (rows_in words)) members, length-take count (rows_in words))

-- the literals of each row are a clause, if none comes with its negation
all_proper : (rows : List (List ℕ)) → AllByRecursion NoTautology rows → AllByRecursion Proper (map members rows)
all_proper [] h = tt
all_proper (row ∷ rows) (here, h) = (record { ascending = asc_members row; tautology_free = here; codes = codes_members row }, all_proper rows h)

-- so the first rows are a shelf
pub shelved_sound : (words : List ℕ) (count : ℕ) → count ≤ 8192 → count ≤ length words / 16 → AllByRecursion NoTautology (take count (rows_in words)) → Sound (shelved words count)
shelved_sound words count few within proper = record {
  base_low = omega arith;
  base_high = omega arith;
  rate_high = omega arith;
  few = omega (arith, rows_length words count within);
  light = omega (arith, weights_rows (length words / 16) (clauses_in (rows_in words) count), rows_length words count within);
  proper = all_proper (take count (rows_in words)) proper;
}
