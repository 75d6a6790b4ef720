use Rattle.std.proofs.Common.{◌≡◌, ◌++◌, List, length}
use Rattle.diagrams.specs.declared.Node.{Node}
use Rattle.tables.specs.Rows.{rows}
use Rattle.sweeps.proofs.Spreads.{Marking}
use Rattle.sweeps.proofs.marking.marked.Given as goal

abbrev pub invariant-loop-i : goal.invariant-loop-i
invariant-loop-i l =
    record {
      count : l.i-iterator.iter.count ≡ 0;
      left : (tail : List Node) × (rows l.table ≡ l.i-iterator.iter.iter.rest.now ++ tail);
      marking : Marking (rows l.table) l.fn.pegs (length l.i-iterator.iter.iter.rest.now) l.marks;
    }
