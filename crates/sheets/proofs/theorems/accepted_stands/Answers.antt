use Rattle.sheets.proofs.Accepts.{accepted}
use Rattle.sheets.proofs.theorems.accepted_stands.Goals as goal

pub returns : goal.returns
returns c pieces chain text ls d e = accepted pieces chain text ls d e
