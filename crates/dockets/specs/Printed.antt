-- How a broken rule and a line's fault are printed.
use Rattle.std.specs.Prelude.{ℕ, List, ◌++◌, codes, decimal}
use Rattle.dockets.specs.declared.fault.LineRule.{LineRule}
use Rattle.dockets.specs.declared.fault.LineRule.TheVariants.{Map, Short, Card}
use Rattle.dockets.specs.declared.fault.LineFault.{LineFault}

-- the word for a rule
abbrev pub rule_word : LineRule → List ℕ
rule_word Map = codes "map"
rule_word Short = codes "short"
rule_word Card = codes "card"

-- the rule, and the byte where it is broken
abbrev pub fault_text : LineFault → List ℕ
fault_text f = rule_word f.rule ++ codes " at byte " ++ decimal f.byte
