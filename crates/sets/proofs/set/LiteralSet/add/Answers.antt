use Rattle.std.proofs.Common.{ap, ◌∙◌}
use Rattle.sets.specs.Members.{members}
use Rattle.sets.proofs.Elements.{inserted}
use Rattle.sets.proofs.set.LiteralSet.add.Goals as goal

pub returns : goal.returns
returns c = ap members c.set_bit.ensures ∙ inserted c.args.self.now.words c.args.literal.code c.args.self.now.long c.args.literal.literal
