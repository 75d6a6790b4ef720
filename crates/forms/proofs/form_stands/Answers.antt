use Rattle.forms.proofs.Unfolds.{form_set}
use Rattle.forms.proofs.form_stands.Goals as goal

pub returns : goal.returns
returns c g laws N M S T n m en em = form_set g laws N M S T n m en em
