use Rattle.tables.specs.Rows.{rows}
use Rattle.tables.proofs.Rows.{sound_of}
use Rattle.tables.proofs.table.Table.level_of.Goals as goal

pub returns : goal.returns
returns c = c.height.ensures (rows c.args.self.now) c.args.number (sound_of c.args.self.now) c.requires c.get.ensures
