use Rattle.diagrams.proofs.Words.{single_is}
use Rattle.diagrams.proofs.theorems.single_stands.Goals as goal

pub returns : goal.returns
returns c g laws N S = single_is g laws N S
