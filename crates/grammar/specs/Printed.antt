-- How a broken rule and a text's fault are printed.
use Rattle.std.specs.Prelude.{ℕ, List, ◌++◌, codes, decimal}
use Rattle.grammar.specs.declared.rule.Rule.{Rule}
use Rattle.grammar.specs.declared.rule.Rule.TheVariants.{Spelling, Header, Size, Binding, Tally}
use Rattle.grammar.specs.declared.rule.TextFault.{TextFault}

-- the word for a rule
abbrev pub rule_word : Rule → List ℕ
rule_word Spelling = codes "spelling"
rule_word Header = codes "header"
rule_word Size = codes "size"
rule_word Binding = codes "binding"
rule_word Tally = codes "tally"

-- the rule, and the offset at which it is broken
abbrev pub fault_text : TextFault → List ℕ
fault_text f = rule_word f.rule ++ codes " at byte " ++ decimal f.byte
