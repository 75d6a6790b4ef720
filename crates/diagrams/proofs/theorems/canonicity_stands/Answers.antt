use Rattle.diagrams.proofs.Sets.{one_number}
use Rattle.diagrams.proofs.theorems.canonicity_stands.Goals as goal

pub returns : goal.returns
returns c g laws N S = one_number g laws N S
