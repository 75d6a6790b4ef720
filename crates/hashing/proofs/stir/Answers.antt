use Rattle.std.proofs.Common.{rules}
use Rattle.hashing.specs.Stirring.{stirred}
use Rattle.hashing.proofs.stir.Goals as goal

pub returns : goal.returns
unfolding stirred
returns g c = search rules
