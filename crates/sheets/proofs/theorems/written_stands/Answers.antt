use Rattle.sheets.proofs.Accepted.{written_accepted}
use Rattle.sheets.proofs.theorems.written_stands.Goals as goal

pub returns : goal.returns
returns c pieces chain h N S n e x few = written_accepted N S n e pieces chain h x few
