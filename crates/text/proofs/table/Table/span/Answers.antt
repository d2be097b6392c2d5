use Rattle.text.proofs.Spans.{spanned}
use Rattle.text.proofs.table.Table.span.Goals as goal

pub returns-then-j-self : goal.returns-then-j-self
returns-then-j-self c =
    let t = c.args.self.now in
    let b = spanned t.literals.now t.ends.now t.count t.held t.prefix.n c.args.j t.fit c.if-j-self.true in
    rw (c.start.ensures, c.from.ensures) b
