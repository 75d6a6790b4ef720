use Rattle.sweeps.proofs.Laws.{sweep}
use Rattle.sweeps.proofs.theorems.sweep_stands.Goals as goal

pub returns : goal.returns
returns c N pegs S P = sweep N pegs S P
