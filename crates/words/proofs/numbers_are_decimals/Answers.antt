use Rattle.words.proofs.Tokens.{numbers_are_decimals}
use Rattle.words.proofs.numbers_are_decimals.Goals as goal

pub returns : goal.returns
returns c = numbers_are_decimals
