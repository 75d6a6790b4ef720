use Rattle.std.proofs.Common.{◌-◌, ◌<◌, ◌≤◌, sym, ap, ◌∙◌, arith}
use Rattle.diagrams.specs.Bodies.{row}
use Rattle.tables.specs.Rows.{rows}
use Rattle.tables.proofs.Rows.{length_rows, at_rows, row_zero, row_one, row_rest}
use Rattle.tables.proofs.table.Table.get.Goals as goal

pub bounds-self-number : goal.bounds-self-number
bounds-self-number c =
    let t = c.args.self.now in
    let e = length_rows t in
    omega (arith, t.within)

pub returns-in-0 : goal.returns-in-0
returns-in-0 c = sym (ap (row (rows c.args.self.now)) c.in-0.is ∙ row_zero (rows c.args.self.now))

pub returns-in-1 : goal.returns-in-1
returns-in-1 c = sym (ap (row (rows c.args.self.now)) c.in-1.is ∙ row_one (rows c.args.self.now))

pub returns-in_default : goal.returns-in_default
returns-in_default c =
    let t = c.args.self.now in
    let e = length_rows t in
    let two : 2 ≤ c.args.number = omega arith in
    let lt : c.args.number - 2 < t.len = omega arith in
    sym (row_rest (rows t) c.args.number two ∙ at_rows t (c.args.number - 2) lt)
