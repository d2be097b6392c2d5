use Rattle.rules.proofs.Outcomes.{joined_list, joined_is}
use Rattle.rules.proofs.clauses.joined.Goals as goal

pub returns : goal.returns
returns c =
    let is = joined_list _ _ _ _ _ c.new-set.ensures c.add_without.ensures c.add_without-2.ensures in
    record { clause = is; rule = joined_is _ _ _ _ _ is }
