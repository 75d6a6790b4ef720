use Rattle.std.proofs.Common.{refl}
use Rattle.diagrams.specs.Table.{lo_of, hi_of}
use Rattle.sweeps.specs.Reaching.{leads, reached}
use Rattle.sweeps.specs.Sweeping.{rank, renumber, kept_of, swept, renumbered, pegs_after}
use Rattle.sweeps.proofs.theorems.examples_stand.Goals as goal

pub returns : goal.returns
unfolding lo_of hi_of leads reached rank renumber kept_of swept renumbered pegs_after
returns c = ((refl, refl), ((refl, refl), ((refl, refl), tt)))
