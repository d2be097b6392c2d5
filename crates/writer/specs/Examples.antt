-- A small formula and a fault as they are written: the definitions at work.
use Rattle.std.specs.Prelude.{◌≡◌, codes}
use Rattle.calculus.specs.Examples.{pair}
use Rattle.grammar.specs.declared.rule.Rule.TheVariants.{Tally}
use Rattle.writer.specs.Written.{written, refusal_line}

-- some 1, all 2: (1 or 2) and (not 1 or not 2); and a fault against rule 15 at byte 120
abbrev pub Examples : Type 0
Examples =
    (written pair ≡ codes "p cnf 2 2\ne 1 0\na 2 0\n1 2 0\n-1 -2 0\n")
    × (refusal_line (record { rule = Tally; byte = 120 }) ≡ codes "refused 15 layer text byte 120 line 0\n")
