-- Fields of a docket, read from the bytes that begin with them.
use Rattle.std.proofs.Common.{◌≡◌, ℕ, ◌+◌, ◌-◌, List, length, take, drop, ap, ◌∙◌, add_assoc, arith}
use Rattle.std.proofs.lemmas.List.{drop-drop, get_or-drop}
use Rattle.std.proofs.lemmas.Slice.{between_to_end}
use Rattle.dockets.specs.Reading.{field_at}

-- a field of the bytes from a byte on is one of the docket
pub field_behind : (docket : List ℕ) (byte k at : ℕ) → byte + k ≡ at → field_at (drop byte docket) k ≡ field_at docket at
field_behind docket byte k at i = simp (get_or-drop, ← i, add_assoc)

-- the bytes behind the first of those from a byte on
pub beyond : (docket bytes : List ℕ) (at k : ℕ) → bytes ≡ drop at docket → take (length bytes - k) (drop k bytes) ≡ drop (at + k) docket
beyond docket bytes at k e = between_to_end bytes k (length bytes) (omega arith) ∙ (ap (drop k) e ∙ drop-drop k at docket)
