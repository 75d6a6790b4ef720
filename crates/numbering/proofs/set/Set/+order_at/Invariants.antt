use Rattle.numbering.proofs.set.Set.+order_at.Given as goal

abbrev pub decreases-order_at : goal.decreases-order_at
decreases-order_at g l = l.self.number
