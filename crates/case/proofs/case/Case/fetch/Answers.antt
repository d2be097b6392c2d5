use Rattle.std.proofs.Common.{ap}
use Rattle.case.proofs.Fetching.{fetched}
use Rattle.case.proofs.case.Case.fetch.Goals as goal

pub returns : goal.returns
returns g c = fetched _ _ (ap (λ v. g.S.Shelf.meaning v.shelf) c.self.view_is) (g.S.Shelf.sound c.self.inside.shelf) _ _ _ _ _ c.in_ok-len.ensures c.front.ensures
