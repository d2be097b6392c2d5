-- What is written of an entry is bytes.
use Rattle.std.proofs.Common.{ℕ, ◌<◌, List, [], ◌∷◌, ◌++◌, length, arith}
use Rattle.std.specs.List.{flat_map, AllByRecursion}
use Rattle.std.proofs.ByRecursion.{All-append, All-from_get_or}
use Rattle.dockets.specs.Encoding.{Entry, axiom_entry, resolution_entry, reduction_entry, symmetry_entry, field, pair, encoded, encoded_all, Fits, Writable}

abbrev Octets : List ℕ → Type 0
Octets = AllByRecursion (λ b. b < 256)

with_field : (x : ℕ) (more : List ℕ) → Fits x → Octets more → Octets (field x ++ more)
with_field x more h m = (omega arith, (omega arith, m))

with_pairs : (pairs : List (ℕ × ℕ)) → AllByRecursion (λ p. Fits p.0 × Fits p.1) pairs → Octets (flat_map pair pairs)
with_pairs [] all = tt
with_pairs (p ∷ pairs) ((v, x), all) =
    with_field p.0 (field p.1 ++ flat_map pair pairs) v (with_field p.1 (flat_map pair pairs) x (with_pairs pairs all))

pub encoded_octets : (entry : Entry) → Writable entry → AllByRecursion (λ b. b < 256) (encoded entry)
unfolding encoded
encoded_octets (axiom_entry j) h = (omega arith, with_field j [] h tt)
encoded_octets (resolution_entry p q v) (a, b, c) = (omega arith, with_field p (field q ++ field v) a (with_field q (field v) b (with_field v [] c tt)))
encoded_octets (reduction_entry p v) (a, b) = (omega arith, with_field p (field v) a (with_field v [] b tt))
encoded_octets (symmetry_entry p pairs) (h, lawful) = (
  omega arith,
  with_field p (field (length pairs) ++ flat_map pair pairs) h (with_field (length pairs) (flat_map pair pairs) (omega (arith, lawful.few)) (with_pairs pairs fits)),
)
  where
    fits : AllByRecursion (λ p. Fits p.0 × Fits p.1) pairs
    fits =
        All-from_get_or (λ p. Fits p.0 × Fits p.1) pairs (0, 0)
        (λ k h. let f = lawful.fit k h in (omega (arith, f.0.0.1), omega (arith, f.1.0.1)))

pub encoded_all_octets : (entries : List Entry) → AllByRecursion Writable entries → AllByRecursion (λ b. b < 256) (encoded_all entries)
encoded_all_octets [] all = tt
encoded_all_octets (x ∷ xs) (h, all) = All-append (λ b. b < 256) (encoded x) (encoded_all xs) (encoded_octets x h) (encoded_all_octets xs all)
