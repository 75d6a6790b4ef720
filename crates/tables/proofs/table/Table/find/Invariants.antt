use Rattle.std.specs.Option.{unwrap_or}
use Rattle.tables.specs.Rows.{rows}
use Rattle.tables.proofs.Walks.{Walk}
use Rattle.tables.proofs.table.Table.find.Given as goal

abbrev pub invariant-loop-next : goal.invariant-loop-next
invariant-loop-next l = Walk (rows l.self) l.branch.x l.branch.y l.branch.lo l.branch.hi l.next

abbrev pub decreases-loop-next : goal.decreases-loop-next
decreases-loop-next l = unwrap_or l.next 0
