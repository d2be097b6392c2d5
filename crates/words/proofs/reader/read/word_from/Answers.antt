use Rattle.std.proofs.Common.{◌≡◌, ◌+◌, ◌-◌, arith}
use Rattle.std.proofs.lemmas.List.{take_rest}
use Rattle.words.proofs.Reading.{read_none, read_some}
use Rattle.words.proofs.reader.read.word_from.Goals as goal

pub returns-then-place-end : goal.returns-then-place-end
returns-then-place-end c =
    read_none c.args.text.now c.args.at (rw take_rest at c.run.ensures.value) (rw take_rest at c.run-2.ensures.value) (omega arith)

pub returns : goal.returns
returns c =
    record {
      words = read_some c.args.text.now c.args.at (rw take_rest at c.run.ensures.value) (rw take_rest at c.run-2.ensures.value)
          (rw (let e : c.args.at + c.run.result + c.run-2.result - (c.args.at + c.run.result) ≡ c.run-2.result = omega arith in e) at c.from-token.ensures)
          (λ z. c.if-place-end.false (omega arith));
      place = omega arith;
      within = omega arith;
    }
