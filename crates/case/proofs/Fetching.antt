-- The clause of an earlier line, copied to a place.
use Rattle.std.proofs.Common.{◌≡◌, ℕ, ◌<◌, List, length, take, Ok, subst}
use Rattle.laws.specs.Derivations.{line_of}
use Rattle.shelf.specs.Proper.{LongestFront}
use Rattle.shelf.specs.Shelved.{Shelved, Sound, Looks}
use Rattle.shelf.proofs.Fronts.{front_whole}
use Rattle.shelf.proofs.Keeping.{looked_front, line_proper}

-- the longest front of what was copied is the whole clause
pub fetched :
    (s t : Shelved) → s ≡ t → Sound s → (p k : ℕ) (place copied F : List ℕ) → Looks s p (Ok k) place copied → LongestFront (take k copied) F →
    (p < length t.kept) × (F ≡ line_of t.kept p)
fetched s t e sound p k place copied F h f =
    subst (λ u. (p < length u.kept) × (F ≡ line_of u.kept p)) e
    (h.0, front_whole (line_of s.kept p) F (subst (λ C. LongestFront C F) (looked_front s p k place copied h) f) (line_proper s p sound))
