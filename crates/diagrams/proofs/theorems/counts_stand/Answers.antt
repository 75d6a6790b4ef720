use Rattle.diagrams.proofs.Counts.{counted}
use Rattle.diagrams.proofs.theorems.counts_stand.Goals as goal

pub returns : goal.returns
returns c g laws N S = counted g laws N S
