use Rattle.std.proofs.Common.{get_or}
use Rattle.sweeps.specs.Sweeping.{on_peg}
use Rattle.sweeps.proofs.Rebuilds.{Moved}
use Rattle.sweeps.proofs.remaking.moved.Given as goal

abbrev pub invariant-loop-peg : goal.invariant-loop-peg
invariant-loop-peg l = Moved (on_peg (λ n. get_or l.numbers n 0)) l.fn.pegs l.peg-items l.peg-index
