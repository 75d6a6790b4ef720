use Rattle.diagrams.proofs.Sets.{stands}
use Rattle.diagrams.proofs.theorems.sets_stand.Goals as goal

pub returns : goal.returns
returns c g laws N S = stands g laws N S
