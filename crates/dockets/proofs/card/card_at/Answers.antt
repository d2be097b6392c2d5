use Rattle.std.proofs.lemmas.Result.{err_from_is_err_and}
use Rattle.dockets.proofs.Carding.{counted, cut_short, made, refused, refused_cut, card_refused}
use Rattle.dockets.proofs.card.card_at.Goals as goal

pub returns-in_err-ask-in-Ok : goal.returns-in_err-ask-in-Ok
returns-in_err-ask-in-Ok c =
    let n = counted _ _ _ _ _ _ _ c.new-cursor.ensures.of c.new-cursor.ensures.place c.in_ok-count.ensures.same c.in_ok-count.ensures.onto c.in_ok-count.ensures.holds c.in_ok-count.ensures.value in
    let p = err_from_is_err_and c.from_residual-in_err-ask-in-Ok.result c.from_residual-in_err-ask-in-Ok.ensures.1 in
    card_refused _ _ _ _ _ p.1 p.2 (cut_short _ _ _ _ _ n _ c.pairs-pairs.ensures _ _ c.in-Ok.ensures c.in_err-ask-in-Ok.ensures.fault)

pub returns-in_err-ask-in-Err : goal.returns-in_err-ask-in-Err
returns-in_err-ask-in-Err c =
    let n = counted _ _ _ _ _ _ _ c.new-cursor.ensures.of c.new-cursor.ensures.place c.in_ok-count.ensures.same c.in_ok-count.ensures.onto c.in_ok-count.ensures.holds c.in_ok-count.ensures.value in
    let p = err_from_is_err_and c.from_residual-in_err-ask-in-Err.result c.from_residual-in_err-ask-in-Err.ensures.1 in
    card_refused _ _ _ _ _ p.1 p.2 (refused_cut _ _ _ _ _ n _ c.pairs-pairs.ensures _ _ _ c.in-Err.ensures c.asked-fields.ensures.fields c.in_err-ask-in-Err.ensures.fault)

pub returns-in_ok-ask-in-Ok : goal.returns-in_ok-ask-in-Ok
returns-in_ok-ask-in-Ok c =
    let n = counted _ _ _ _ _ _ _ c.new-cursor.ensures.of c.new-cursor.ensures.place c.in_ok-count.ensures.same c.in_ok-count.ensures.onto c.in_ok-count.ensures.holds c.in_ok-count.ensures.value in
    made _ _ _ _ _ n _ c.pairs-pairs.ensures _ c.in-Ok.ensures c.in_ok-ask-in-Ok.ensures.there

pub returns-in_ok-ask-in-Err : goal.returns-in_ok-ask-in-Err
returns-in_ok-ask-in-Err c =
    let n = counted _ _ _ _ _ _ _ c.new-cursor.ensures.of c.new-cursor.ensures.place c.in_ok-count.ensures.same c.in_ok-count.ensures.onto c.in_ok-count.ensures.holds c.in_ok-count.ensures.value in
    refused _ _ _ _ _ n _ c.pairs-pairs.ensures _ _ _ _ c.in-Err.ensures c.asked-fields.ensures.fields c.asked-fields.ensures.byte c.in_ok-ask-in-Err.ensures.there c.at.ensures
