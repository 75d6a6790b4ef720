use Rattle.sheets.proofs.numbering.Numbering.+visit.Given as goal

abbrev pub decreases-visit : goal.decreases-visit
decreases-visit l = l.n
