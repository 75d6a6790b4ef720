use Rattle.std.proofs.Common.{get_or, subst, sym, arith, MatchResult}
use Rattle.orders.specs.Entries.{Writes, Refused}
use Rattle.orders.proofs.Written.{answered}
use Rattle.orders.proofs.order.Order.from_row.Goals as goal

pub returns : goal.returns
returns c =
    subst (λ r. MatchResult r (Writes c.args.row c.args.len) (Refused c.args.row c.args.len)) (sym c.ok_or.ensures.value)
    (answered c.args.row c.args.len (λ j. get_or c.digits_of.result j 0) (omega arith) c.digits_of.ensures.front c.digits_of.ensures.back (omega arith)
    c.packed.result c.packed.ensures c.from_code.result c.from_code.ensures)
