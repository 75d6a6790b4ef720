use Rattle.std.proofs.Common.{arith, ltb-true, lt-ltb}
use Rattle.tables.proofs.Rows.{length_rows}
use Rattle.tables.proofs.table.Table.exists.Goals as goal

pub returns : goal.returns
returns c =
    let e = length_rows c.args.self.now in
    (λ t. omega (arith, ltb-true _ _ t), λ l. lt-ltb _ _ (omega arith))
