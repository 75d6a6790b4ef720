use Rattle.numbering.proofs.Factors.{irreflexive, transitive, total}
use Rattle.numbering.proofs.theorems.before_stands.Goals as goal

pub returns : goal.returns
returns c g laws = record { irreflexive = irreflexive g; transitive = transitive g; total = total g laws }
