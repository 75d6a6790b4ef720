use Rattle.diagrams.proofs.Words.{answer_is}
use Rattle.diagrams.proofs.theorems.answers_stand.Goals as goal

pub returns : goal.returns
returns c g laws N S = answer_is g laws N S
