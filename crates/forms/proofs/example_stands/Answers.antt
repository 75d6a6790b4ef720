use Rattle.std.proofs.Common.{refl}
use Rattle.diagrams.specs.Rules.{first}
use Rattle.diagrams.specs.Table.{x_of, y_of, lo_of, hi_of}
use Rattle.forms.specs.Walks.{walk, reached, sheet_of}
use Rattle.forms.proofs.example_stands.Goals as goal

pub returns : goal.returns
unfolding sheet_of reached walk first x_of y_of lo_of hi_of
returns c = refl
