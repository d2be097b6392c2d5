use Rattle.std.proofs.Common.{[], ◌∷◌, ap}
use Rattle.writer.proofs.Pens.{put_then, put_as}
use Rattle.writer.proofs.levels.put_block.Goals as goal

pub returns : goal.returns
returns g c = put_then (put_as (ap (λ b. b ∷ []) c.letter.ensures) c.put.ensures) (put_then c.put_variables.ensures (put_then c.put_space.ensures c.put_end.ensures))
