use Rattle.numbering.proofs.Ranks.{numbering}
use Rattle.numbering.proofs.theorems.numbering_stands.Goals as goal

pub returns : goal.returns
returns c g laws N S = numbering g laws N S
