use Rattle.store.specs.Views.{view}
use Rattle.deposits.proofs.Enters.{Entering}
use Rattle.deposits.proofs.reading.enter.Given as goal

abbrev pub invariant-loop-line : goal.invariant-loop-line
invariant-loop-line g l = Entering (view l.initial.store) l.initial.numbers l.lines (view l.store) l.numbers l.line-index
