use Rattle.lines.proofs.Pages.{added_one}
use Rattle.lines.proofs.writes.put_byte.Goals as goal

pub returns-clause-answer : goal.returns-clause-answer
returns-clause-answer c = added_one _ _ _ _ c.requires c.add.ensures.answer
