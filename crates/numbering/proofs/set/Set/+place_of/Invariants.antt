use Rattle.numbering.proofs.set.Set.+place_of.Given as goal

abbrev pub decreases-place_of : goal.decreases-place_of
decreases-place_of g l = l.self.number
