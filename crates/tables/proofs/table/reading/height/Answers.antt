use Rattle.tables.proofs.Rows.{level_kept}
use Rattle.tables.proofs.table.reading.height.Goals as goal

pub returns : goal.returns
returns c N n S e is = level_kept N n _ _ c.level.ensures.pair c.level.ensures.other S e is
