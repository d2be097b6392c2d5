-- Bytes that a pen puts into a lent buffer one after the other.
use Rattle.std.specs.Prelude.{◌≡◌, ℕ, ◌+◌, ◌-◌, ◌^◌, ◌<◌, min, List, [], ◌∷◌, length, slice_set}
use Rattle.writer.specs.declared.pen.Pen.{Pen}

-- the buffer with these bytes from the place at on; those past its end are left out
abbrev pub stamp : ℕ → List ℕ → List ℕ → List ℕ
stamp at [] out = out
stamp at (b ∷ bs) out = stamp (at + 1) bs (slice_set out at b)

-- a pen puts these bytes: it stays on its buffer; what the buffer holds then, and the pen's next place, as far as places are counted
pub record Put (bytes : List ℕ) (before after : Pen) : Type 0 where
  pub same : after.out.ghost_name ≡ before.out.ghost_name
  pub room : length before.out.now < 2 ^ 63
  pub held : after.out.now ≡ stamp before.at bytes before.out.now
  pub place : after.at ≡ min (before.at + length bytes) (2 ^ 64 - 1)
