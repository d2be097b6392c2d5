-- What mirroring a text answers, and what the buffer and all cells hold then.
use Rattle.std.specs.Prelude.{ℕ, List, Result}
use Rattle.grammar.specs.Lawful.{Sizes}
use Rattle.tidying.specs.Tidied.{Said}
use Rattle.writer.specs.declared.fault.WriteFault.{WriteFault}
use Rattle.mirroring.specs.Negation.{negated}

-- the formula of a mirrored text is written with every literal negated
abbrev pub Mirrored : Sizes → List ℕ → Result ℕ WriteFault → List ℕ → List ℕ → List ℕ → List ℕ → Type 0
Mirrored = Said negated
