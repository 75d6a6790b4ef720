use Rattle.std.proofs.Common.{◌∙◌, arith, rules}
use Rattle.lines.proofs.Pages.{stands_behind}
use Rattle.lines.proofs.writes.put_line.Goals as goal

pub returns : goal.returns
returns c =
    stands_behind _ _ c.args.at c.new-list.result c.write_line.new.page _ _ (omega (arith, c.if-page-len.false, c.if-page-len-2.false)) c.new-list.ensures.items
    (c.new-list.ensures.room ∙ search rules) c.write_line.ensures.answer (omega (arith, c.len.ensures)) (search rules)
