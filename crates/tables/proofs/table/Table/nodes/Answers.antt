use Rattle.std.proofs.Common.{◌≡◌, ◌-◌, take, ap, arith}
use Rattle.tables.specs.Rows.{rows}
use Rattle.tables.proofs.table.Table.nodes.Goals as goal

pub returns : goal.returns
unfolding rows
returns c =
    let t = c.args.self.now in
    let e : t.len - 0 ≡ t.len = omega arith in
    ap (λ n. take n t.nodes) e
