use Rattle.dockets.proofs.WrittenSo.{encoding}
use Rattle.dockets.proofs.format.encoding_undoes_decoding.Goals as goal

pub returns : goal.returns
returns c = encoding
