use Rattle.sweeps.proofs.Spreads.{Rooted}
use Rattle.sweeps.proofs.marking.roots.Given as goal

abbrev pub invariant-loop-peg : goal.invariant-loop-peg
invariant-loop-peg l = Rooted l.fn.pegs l.peg-index l.marks
