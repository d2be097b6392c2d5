-- An array that is filled with the pairs from a byte on.
use Rattle.std.proofs.Common.{◌≡◌, ℕ, ◌+◌, ◌*◌, ◌<◌, ◌≤◌, List, length, get_or, take, set, ◌∙◌, arith, length-set}
use Rattle.std.proofs.lemmas.List.{get_or-take, length-take-le}
use Rattle.std.proofs.lemmas.List.FromFn.{fill_by_all}
use Rattle.std.proofs.lemmas.List.Edits.{fill_by_more}
use Rattle.dockets.specs.Fields.{pair_from, pairs_from}
use Rattle.dockets.specs.Reading.{field_at}

-- the first k pairs are there
pub record Filled (docket : List ℕ) (at k : ℕ) (pairs : List (ℕ × ℕ)) : Type 0 where
  pub long : length pairs ≡ 512
  pub so_far : (j : ℕ) → j < k → get_or pairs j (0, 0) ≡ pair_from docket at j

module _ (docket : List ℕ) (at k : ℕ) (pairs : List (ℕ × ℕ)) (f : Filled docket at k pairs) where
  pub filled_more : k < 512 → (v x : ℕ) → v ≡ field_at docket (at + 4 * k) → x ≡ field_at docket (at + (4 * k + 2)) → Filled docket at (k + 1) (set pairs k (v, x))
  filled_more l v x e i = record {
    long = simp length-set f.long;
    so_far = rw (e, i) (fill_by_more (pair_from docket at) pairs k (0, 0) (omega (arith, f.long)) f.so_far);
  }

  pub filled_all : (count : ℕ) → count ≤ k → count ≤ 512 → take count pairs ≡ pairs_from docket at count
  filled_all count h few =
      fill_by_all (pair_from docket at) (take count pairs) count (0, 0) (length-take-le count pairs (omega (arith, f.long)))
      (λ j l. get_or-take count pairs j (0, 0) l ∙ f.so_far j (omega arith))
