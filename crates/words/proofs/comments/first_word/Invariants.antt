use Rattle.std.proofs.Common.{◌≡◌, [], drop}
use Rattle.words.specs.Words.{bare, words, words_from}
use Rattle.words.specs.Regions.{region_of}
use Rattle.words.proofs.comments.first_word.Given as goal

abbrev pub invariant-loop-i : goal.invariant-loop-i
invariant-loop-i l = words l.text ≡ words_from l.i [] (bare (region_of l.region) (drop l.i l.text))
