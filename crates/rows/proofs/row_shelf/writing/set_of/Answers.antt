-- A clause has a set, which has just its literals.
use Rattle.rows.proofs.Clauses.{has_set, set_codes, set_proper}
use Rattle.rows.proofs.row_shelf.writing.set_of.Goals as goal

pub unwrap-requires : goal.unwrap-requires
unwrap-requires c = has_set _ _ c.of.result c.args.clause.proper c.codes.ensures c.of.ensures

pub returns-clause-codes : goal.returns-clause-codes
returns-clause-codes c = set_codes _ _ c.of.result c.args.clause.proper c.codes.ensures c.of.ensures c.unwrap.result c.unwrap.ensures

pub returns-clause-proper : goal.returns-clause-proper
returns-clause-proper c = set_proper _ _ c.of.result c.args.clause.proper c.codes.ensures c.of.ensures c.unwrap.result c.unwrap.ensures
