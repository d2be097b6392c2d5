-- A case as contracts see it: its fields.
use Rattle.std.specs.Prelude.{Bool}

pub record Seen (F S : Type 0) : Type 0 where
  pub formula : F
  pub shelf : S
  pub refuted : Bool
