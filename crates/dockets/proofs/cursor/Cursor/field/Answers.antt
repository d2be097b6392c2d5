use Rattle.dockets.proofs.Fronts.{beyond}
use Rattle.dockets.proofs.cursor.Cursor.field.Goals as goal

pub invariant_of-self : goal.invariant_of-self
invariant_of-self c = record { stands = beyond c.args.self.now.docket.now c.args.self.now.rest.now c.args.self.now.at 2 c.args.self.now.stands }
