use Rattle.shelf.proofs.Spacing.{space_suffices}
use Rattle.shelf.proofs.clauses_with_space_are_kept.Goals as goal

pub returns : goal.returns
returns c = space_suffices
