use Rattle.words.specs.Rest.{rest}
use Rattle.text.specs.Going.{Going}
use Rattle.text.proofs.reader.read_words.Given as goal

abbrev pub invariant-loop-word : goal.invariant-loop-word
invariant-loop-word l = Going l.text (rest l.word-iterator) l.state l.literals l.ends
