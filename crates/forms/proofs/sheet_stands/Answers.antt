use Rattle.forms.proofs.Sheets.{sheet_set}
use Rattle.forms.proofs.sheet_stands.Goals as goal

pub returns : goal.returns
returns c g laws N M S T n m en em = sheet_set g laws N M S T n m en em
