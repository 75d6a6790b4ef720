use Rattle.std.proofs.Common.{length}
use Rattle.books.proofs.Steps.{Going}
use Rattle.books.proofs.book.read_orders.Given as goal

abbrev pub invariant-loop-rest : goal.invariant-loop-rest
invariant-loop-rest l = Going l.book l.initial.list l.text l.list l.rest

abbrev pub decreases-loop-rest : goal.decreases-loop-rest
decreases-loop-rest l = length l.rest
