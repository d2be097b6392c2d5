use Rattle.std.proofs.Common.{◌≡◌, ◌%◌, sym, arith}
use Rattle.std.proofs.lemmas.Fmt.{decimal_digit, decimal_step}
use Rattle.writer.proofs.Pens.{put_then, put_as}
use Rattle.writer.proofs.pen.Pen.+put_number.Goals as goal
use Rattle.writer.proofs.pen.Pen.+put_number.Goals.{then-k-ge10, else-k-ge10}

pub returns : goal.returns
returns t c =
    elim c.if-k-ge10.branch [
      | then-k-ge10 w ↦ put_as (sym (decimal_step c.args.k (omega arith) (omega arith))) (put_then w.put_number.ensures (rw w.self-is at c.put.ensures))
      | else-k-ge10 w ↦ let small : c.args.k % 10 ≡ c.args.k = omega arith in put_as (sym (decimal_digit c.args.k (omega arith))) (rw (w.self-is, small) at c.put.ensures)
    ]
