use Rattle.std.proofs.Common.{length, sym, ◌∙◌, subst, rules}
use Rattle.std.proofs.lemmas.Result.{MatchResult-weaker}
use Rattle.std.proofs.lemmas.Option.{MatchOption-at_some}
use Rattle.orders.specs.Entries.{Writes}
use Rattle.lines.specs.Held.{held}
use Rattle.lines.proofs.Follows.{written_tells}
use Rattle.factors.proofs.rows.order_in.Goals as goal

pub returns : goal.returns
returns c =
    let row = c.in_ok-ok_or.field-0 in
    let read = MatchOption-at_some {o = c.fields.result} _ _ row (search rules) c.fields.ensures in
    MatchResult-weaker c.order_of.result c.order_of.ensures
    (λ o w. (held row, read.0, read.2, w))
    (λ e r. record {
      why = r.why;
      none = λ o is. r.none o (subst (λ l. Writes l (length l) o) (written_tells is.0 (held row) is.1 read.0 is.3.some read.1 (sym is.2 ∙ read.2)) is.3);
    })
