use Rattle.std.proofs.Common.{sym}
use Rattle.tables.proofs.Rows.{length_rows}
use Rattle.tables.proofs.table.Table.len.Goals as goal

pub returns : goal.returns
returns c = record { is = sym (length_rows c.args.self.now); within = c.args.self.now.within }
