use Rattle.forms.proofs.Tracks.{marks_stand}
use Rattle.forms.proofs.marks_stand.Goals as goal

pub returns : goal.returns
returns c N S n e size h d l = marks_stand N S n e size h d l
