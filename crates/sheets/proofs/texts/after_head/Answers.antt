use Rattle.std.proofs.Common.{◌≡◌, [], ◌∷◌, ◌++◌, drop, Ok, Err, codes, sym, ap, ◌∙◌}
use Rattle.sheets.specs.Format.{head}
use Rattle.sheets.specs.Lines.{names}
use Rattle.sheets.proofs.Fronts.{names_ok, names_no}
use Rattle.sheets.proofs.Given.{given, given_ok, given_err}
use Rattle.sheets.proofs.Tops.{passed}
use Rattle.sheets.proofs.texts.after_head.Goals as goal

pub returns-in_err-names : goal.returns-in_err-names
returns-in_err-names c =
    let text = c.args.text.now in
    let f = c.in_err-names.field-0.0 in
    let no = given_err c.after_chain.result c.bad_line.result c.ok_or.result c.ok_or.ensures.value _ _ c.after_chain.ensures f c.in_err-names.was in
    passed _ (λ g. names head 1 text ≡ Err g) f c.from_residual.result c.from_residual.ensures.1
    (names_no head 1 text (λ rest e. no.0 ((codes "nodes orders" ++ 10 ∷ []) ++ rest) e) ∙ ap Err (sym (no.1 ∙ c.bad_line.ensures)))

pub returns : goal.returns
returns c =
    let text = c.args.text.now in
    let is = given_ok c.after_chain.result c.bad_line.result c.ok_or.result c.ok_or.ensures.value _ _ c.after_chain.ensures c.in_ok-names.names c.in_ok-names.was in
    given c.after_nodes_orders.result c.bad_line-2.result c.ok_or-2.result c.ok_or-2.ensures.value _ _
    (λ rest. names head 1 text ≡ Ok rest.now) (λ g. names head 1 text ≡ Err g) c.after_nodes_orders.ensures
    (λ rest e. names_ok head 1 text rest.now (is ∙ ap (λ l. codes "chain " ++ l) e))
    (λ bar. names_no head 1 text (λ rest e. bar rest (ap (drop 6) (sym is ∙ e))) ∙ ap Err (sym c.bad_line-2.ensures))
