use Rattle.std.proofs.Common.{ap, ◌∙◌, ◌≡◌, rules}
use Rattle.sets.specs.Members.{members}
use Rattle.rules.proofs.Building.{off, rest, from_none, passed_on}
use Rattle.rules.proofs.Outcomes.{reduction_rule, reduction_free}
use Rattle.rules.proofs.clauses.reduced.Goals as goal

pub unwrap-requires : goal.unwrap-requires
unwrap-requires c =
    let P = c.args.parent.codes.now in
    let v = c.args.v in
    let is = from_none _ _ _ _ c.new-set.ensures (c.add_taken.ensures (off v) (λ x r code post. passed_on _ x r code (search rules))) (rest v P) in
    let free = reduction_free P _ v c.args.parent.proper (reduction_rule P _ v is) in
    search rules

pub returns : goal.returns
returns c =
    let P = c.args.parent.codes.now in
    let v = c.args.v in
    let is = from_none _ _ _ _ c.new-set.ensures (c.add_taken.ensures (off v) (λ x r code post. passed_on _ x r code (search rules))) (rest v P) in
    let whole : c.unwrap.result.literals ≡ c.add_taken.new.set = search rules in
    let is = ap (λ s. members s.words) whole ∙ is in
    record { clause = is; rule = reduction_rule P _ v is }
