use Rattle.std.proofs.Common.{◌+◌, ◌-◌, eqb, List, length, ap, ◌∙◌, arith}
use Rattle.std.specs.Bool.{then_some}
use Rattle.diagrams.specs.declared.Node.{Node}
use Rattle.diagrams.specs.Table.{at}
use Rattle.tables.specs.Rows.{rows}
use Rattle.sheets.proofs.Endings.{rooted}
use Rattle.sheets.proofs.checking.root_of.Goals as goal

pub returns-in-len1-up : goal.returns-in-len1-up
returns-in-len1-up c =
    rooted (rows c.args.table.now) c.args.orders (c.len.result + 1) c.then_some-in-len1-up.result (omega (arith, c.in-len1-up.len_at_least, ap length c.nodes.ensures))
    (omega (arith, c.len.ensures.is))
    (c.then_some-in-len1-up.ensures ∙ ap (λ (N : List Node). then_some (eqb (at N (length N - 1)).orders c.args.orders) (c.len.result + 1)) c.nodes.ensures)
