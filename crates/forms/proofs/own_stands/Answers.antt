use Rattle.forms.proofs.Owns.{owns}
use Rattle.forms.proofs.own_stands.Goals as goal

pub returns : goal.returns
returns c N S some size room d deep = owns N S some size room d deep
