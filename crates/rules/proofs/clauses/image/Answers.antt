use Rattle.std.proofs.Common.{ap, ◌∙◌, ◌≡◌, rules}
use Rattle.sets.specs.Members.{members}
use Rattle.cards.specs.Meant.{meant}
use Rattle.cards.proofs.Actions.{act_code}
use Rattle.rules.proofs.Building.{imaged, images, from_none, taken_on}
use Rattle.rules.proofs.Outcomes.{image_rule, image_free}
use Rattle.rules.proofs.clauses.image.Goals as goal

pub unwrap-requires : goal.unwrap-requires
unwrap-requires c =
    let P = c.args.parent.codes.now in
    let card = meant c.args.card.now in
    let is =
    from_none _ _ _ _ c.new-set.ensures (c.add_taken.ensures (imaged card) (λ x r code post. taken_on card x r (act_code card _ code) (search rules))) (images card P) in
    let free = image_free P _ card c.args.parent.proper (image_rule P _ card is) in
    search rules

pub returns : goal.returns
returns c =
    let P = c.args.parent.codes.now in
    let card = meant c.args.card.now in
    let is =
    from_none _ _ _ _ c.new-set.ensures (c.add_taken.ensures (imaged card) (λ x r code post. taken_on card x r (act_code card _ code) (search rules))) (images card P) in
    let whole : c.unwrap.result.literals ≡ c.add_taken.new.set = search rules in
    let is = ap (λ s. members s.words) whole ∙ is in
    record { clause = is; rule = image_rule P _ card is }
