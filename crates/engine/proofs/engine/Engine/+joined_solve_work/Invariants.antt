use Rattle.std.proofs.Common.{◌+◌, ◌*◌}
use Rattle.diagrams.specs.declared.Task.TheVariants.{Join}
use Rattle.diagrams.specs.Work.{measure}
use Rattle.tables.specs.Rows.{rows}
use Rattle.engine.proofs.engine.Engine.+joined_solve_work.Given as goal

abbrev pub decreases-solve : goal.decreases-solve
decreases-solve g l = 3 * measure (rows l.self.now.table) l.task + 1

abbrev pub decreases-work : goal.decreases-work
decreases-work g l = 3 * measure (rows l.self.now.table) l.task

abbrev pub decreases-joined : goal.decreases-joined
decreases-joined g l = 3 * measure (rows l.self.now.table) (Join l.a l.b) + 2
