use Rattle.std.proofs.Common.{◌≡◌, [], ap, sym, ◌∙◌, rules}
use Rattle.words.specs.declared.comments.Region.TheVariants.{Body}
use Rattle.words.specs.Words.{words_from}
use Rattle.words.specs.Regions.{region_of}
use Rattle.words.proofs.Regions.{front_stop}
use Rattle.words.proofs.comments.first_word.Goals as goal

pub returns-then-eq-clause-words : goal.returns-then-eq-clause-words
returns-then-eq-clause-words c =
    c.loop-i.invariant
    ∙ ap (words_from c.loop-i.i []) (front_stop c.args.text.now c.loop-i.i (region_of c.loop-i.region) c.loop-i-test.true
    (let is : c.behind-region.result ≡ Body = search rules in ap region_of (sym is) ∙ c.behind-region.ensures))
