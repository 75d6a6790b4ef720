use Rattle.orders.specs.Factors.{factor_pairs}
use Rattle.factors.proofs.text.DescribedDisplay.fmt.Goals as goal

pub returns-clause-writes : goal.returns-clause-writes
unfolding factor_pairs
returns-clause-writes g c p ok =
    rw c.dimension-dimension.ensures at (rw c.factors.ensures at (rw c.factors-2.ensures at (c.write.ensures.writes p ok)))
