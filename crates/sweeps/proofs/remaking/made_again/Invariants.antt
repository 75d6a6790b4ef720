use Rattle.tables.specs.Rows.{rows}
use Rattle.sweeps.specs.Marks.{test, Remaking}
use Rattle.sweeps.proofs.remaking.made_again.Given as goal

abbrev pub invariant-loop-i : goal.invariant-loop-i
invariant-loop-i l = Remaking (rows l.table) (test l.marks) l.i (rows l.fresh) l.numbers
