use Rattle.std.proofs.Common.{take, drop, refl, ap, ◌∙◌, subst, sym, arith}
use Rattle.std.proofs.lemmas.Result.{err_from_is_err_and}
use Rattle.dockets.specs.Heads.{HeadTaken}
use Rattle.dockets.specs.declared.line.Line.TheVariants.{Symmetry}
use Rattle.dockets.proofs.Carding.{counted}
use Rattle.dockets.proofs.Presence.{There, head_at, cut, part_refused, with_card, without_card}
use Rattle.dockets.proofs.cutting.part.Goals as goal
use Rattle.dockets.proofs.cutting.part.Goals.{in-Symmetry+in_ok-count+in_ok-ask, in_default}

pub returns-in_err-ask : goal.returns-in_err-ask
returns-in_err-ask c =
    let h = head_at _ _ _ _ _ _ c.new-cursor.ensures.of c.new-cursor.ensures.place c.in_ok-head.ensures.taken in
    let s : HeadTaken c.args.docket.now c.args.at (Symmetry c.in-Symmetry.field-0 c.in-Symmetry.field-1) c.head.new.cursor.at = subst (λ line. HeadTaken c.args.docket.now c.args.at line c.head.new.cursor.at) c.in-Symmetry.is h in
    let n = counted c.args.docket.now _ _ _ _ _ _ (c.in_ok-head.ensures.same ∙ c.new-cursor.ensures.of) s.ends c.in_ok-count.ensures.same c.in_ok-count.ensures.onto c.in_ok-count.ensures.holds c.in_ok-count.ensures.value in
    let p = err_from_is_err_and c.from_residual-in_err-ask.result c.from_residual-in_err-ask.ensures.1 in
    part_refused _ _ _ _ _ p.1 p.2 (cut _ _ _ _ _ s _ _ _ n _ c.in_err-ask.ensures.fault)

pub returns : goal.returns
returns c =
    let h = head_at _ _ _ _ _ _ c.new-cursor.ensures.of c.new-cursor.ensures.place c.in_ok-head.ensures.taken in
    let t : There c.args.docket.now c.args.at c.match-branch-2.cursor.at = elim c.match-branch-2.branch [
      | in-Symmetry+in_ok-count+in_ok-ask w ↦
          let s : HeadTaken c.args.docket.now c.args.at (Symmetry w.in-Symmetry.field-0 w.in-Symmetry.field-1) c.head.new.cursor.at = subst (λ line. HeadTaken c.args.docket.now c.args.at line c.head.new.cursor.at) w.in-Symmetry.is h in
          let n = counted c.args.docket.now _ _ _ _ _ _ (c.in_ok-head.ensures.same ∙ c.new-cursor.ensures.of) s.ends w.in_ok-count.ensures.same w.in_ok-count.ensures.onto w.in_ok-count.ensures.holds w.in_ok-count.ensures.value in
          with_card _ _ _ _ _ s _ _ _ n _ w.in_ok-ask.ensures.there (ap (λ x. x.at) w.cursor-is ∙ w.in_ok-ask.ensures.onto)
      | in_default w ↦ subst (There c.args.docket.now c.args.at) (sym (ap (λ x. x.at) w.cursor-is)) (without_card _ _ _ _ h w.in_default.not-Symmetry)
    ] in
    (t.holds, refl, ap (λ n. take n (drop c.args.at c.args.docket.now)) (omega (arith, t.ends, c.place.ensures)))
