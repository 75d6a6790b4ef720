use Rattle.std.proofs.Common.{◌≡◌, length, get_or, sym, ap, ◌∙◌, subst, arith}
use Rattle.lists.specs.Items.{Extended}
use Rattle.lists.proofs.Places.{extended_then, extended_room, extended_length}
use Rattle.lines.specs.Format.{line}
use Rattle.lines.proofs.Pages.{err_only}
use Rattle.forms.specs.Visits.{blank}
use Rattle.sheets.specs.Format.{node_values}
use Rattle.sheets.proofs.Sheets.{lines_take, lines_up_to}
use Rattle.sheets.proofs.writing.put_rows.Goals as goal

pub returns-in_err-add_line-clause-answer : goal.returns-in_err-add_line-clause-answer
returns-in_err-add_line-clause-answer c =
    let inv = c.loop-line.invariant.0 in
    let here : c.from.result ≡ node_values (get_or c.args.lines.now c.loop-line.line-index blank) = c.from.ensures in
    err_only _ _ c.from_residual.result c.from_residual.ensures.0
    (omega (
      arith,
      c.in_err-add_line.ensures.answer.1,
      ap (λ vs. length (line vs)) here,
      extended_room _ _ _ inv,
      extended_length _ _ _ inv,
      lines_up_to c.args.lines.now c.loop-line.line-index c.loop-line-test.true,
    ))

pub loop-line-preserved : goal.loop-line-preserved
loop-line-preserved c =
    let here : c.from.result ≡ node_values (get_or c.args.lines.now c.loop-line.line-index blank) = c.from.ensures in (
      subst (λ l. Extended c.args.page.now c.add_line.new.page l) (sym (lines_take c.args.lines.now c.loop-line.line-index c.loop-line-test.true))
          (extended_then c.args.page.now c.loop-line.page c.add_line.new.page _ _ c.loop-line.invariant.0
          (subst (λ vs. Extended c.loop-line.page c.add_line.new.page (line vs)) here c.in_ok-add_line.ensures.answer)),
      c.in_ok-add_line.ensures.lender ∙ c.loop-line.invariant.1,
    )
