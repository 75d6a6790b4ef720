use Rattle.std.proofs.Common.{◌∙◌, arith, rules}
use Rattle.lines.proofs.Pages.{stands_behind}
use Rattle.lines.proofs.writes.put_bytes.Goals as goal

pub returns : goal.returns
returns c =
    stands_behind _ _ c.args.at c.new-list.result c.add_bytes.new.page _ _ (omega (arith, c.if-page-bytes.false, c.if-page-bytes-2.false)) c.new-list.ensures.items
    (c.new-list.ensures.room ∙ search rules) c.in_ok-add_bytes.ensures.answer (omega (arith, c.len.ensures)) (search rules)
