use Rattle.std.proofs.Common.{◌≡◌, Err, sym, ap, ◌∙◌}
use Rattle.sheets.specs.Checks.{top}
use Rattle.sheets.proofs.Tops.{passed, top_no_names, top_no_values, top_many, top_other, top_no_node_names, top_ok}
use Rattle.sheets.proofs.top.read_top.Goals as goal

pub returns-in_err-text : goal.returns-in_err-text
returns-in_err-text c =
    passed _ (λ f. top c.args.chain c.args.text.now ≡ Err f) c.in_err-text.field-0.0 c.from_residual.result c.from_residual.ensures.1
    (top_no_names c.args.chain c.args.text.now _ c.in_err-text.ensures)

pub returns-in_err-values : goal.returns-in_err-values
returns-in_err-values c =
    passed _ (λ f. top c.args.chain c.args.text.now ≡ Err f) c.in_err-values.field-0.0 c.from_residual-in_err-values.result c.from_residual-in_err-values.ensures.1
    (top_no_values c.args.chain c.args.text.now c.in_ok-text.text.now c.in_ok-text.ensures _ c.in_err-values.ensures)

pub returns-then-nodes-gt-ROOM : goal.returns-then-nodes-gt-ROOM
returns-then-nodes-gt-ROOM c =
    let v = c.in_ok-values in
    top_many c.args.chain c.args.text.now c.in_ok-text.text.now c.in_ok-text.ensures v.values v.text.now v.ensures c.if-nodes-gt-ROOM.true
    ∙ ap Err (sym c.bad_line.ensures)

pub returns-then-code-from : goal.returns-then-code-from
returns-then-code-from c =
    let v = c.in_ok-values in
    top_other c.args.chain c.args.text.now c.in_ok-text.text.now c.in_ok-text.ensures v.values v.text.now v.ensures
    c.if-nodes-gt-ROOM.false
    (λ e. c.if-code-from.true (e ∙ sym c.from.ensures))
    ∙ ap Err (sym c.new.ensures)

pub returns-in_err-rest : goal.returns-in_err-rest
returns-in_err-rest c =
    let v = c.in_ok-values in
    passed _ (λ e. top c.args.chain c.args.text.now ≡ Err e) c.in_err-rest.field-0.0 c.from_residual-in_err-rest.result c.from_residual-in_err-rest.ensures.1
    (top_no_node_names c.args.chain c.args.text.now c.in_ok-text.text.now c.in_ok-text.ensures v.values v.text.now v.ensures
    c.if-nodes-gt-ROOM.false (c.if-code-from.false ∙ c.from.ensures) _ c.in_err-rest.ensures)

pub returns : goal.returns
returns c =
    let v = c.in_ok-values in (
      c.if-nodes-gt-ROOM.false,
      top_ok c.args.chain c.args.text.now c.in_ok-text.text.now c.in_ok-text.ensures v.values v.text.now v.ensures
          c.if-nodes-gt-ROOM.false (c.if-code-from.false ∙ c.from.ensures) c.in_ok-rest.rest.now c.in_ok-rest.ensures,
    )
