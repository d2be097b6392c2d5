use Rattle.std.proofs.Common.{ap, ◌++◌, ◌∙◌, rules}
use Rattle.laws.specs.Claims.{sorted}
use Rattle.sets.specs.Members.{members}
use Rattle.rules.specs.Literal.{code_of}
use Rattle.rules.proofs.Building.{other, others, passed_on}
use Rattle.rules.proofs.clauses.add_without.Goals as goal

pub returns : goal.returns
returns c =
    let l = code_of c.args.literal in
    c.add_taken.ensures (other l) (λ x r code post. passed_on _ x r code (search rules))
    ∙ ap (λ ys. sorted (members c.args.set.now.words ++ ys)) (others l c.args.clause.codes.now)
