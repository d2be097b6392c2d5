use Rattle.laws.proofs.Images.{images_derive}
use Rattle.laws.proofs.images_of_lines_derive.Goals as goal

pub returns : goal.returns
returns c = images_derive
