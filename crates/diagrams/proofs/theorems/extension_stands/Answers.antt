use Rattle.diagrams.proofs.Sets.{in_more}
use Rattle.diagrams.proofs.theorems.extension_stands.Goals as goal

pub returns : goal.returns
returns c g laws N S = in_more g N S
