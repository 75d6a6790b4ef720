use Rattle.diagrams.proofs.Bounds.{count_within, count_sum}
use Rattle.diagrams.proofs.theorems.bounds_stand.Goals as goal

pub returns : goal.returns
returns c N S n m en em = (count_within N S n en, count_sum N S n m en em)
