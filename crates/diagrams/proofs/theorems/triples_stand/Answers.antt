use Rattle.diagrams.proofs.Keys.{key_tells}
use Rattle.diagrams.proofs.theorems.triples_stand.Goals as goal

pub returns : goal.returns
returns c = key_tells
