use Rattle.store.proofs.Holds.{holds_stand}
use Rattle.store.proofs.theorems.holds_stand.Goals as goal

pub returns : goal.returns
returns c = holds_stand
