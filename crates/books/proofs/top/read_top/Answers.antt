use Rattle.std.proofs.Common.{◌≡◌, Err, sym}
use Rattle.sheets.proofs.Tops.{passed}
use Rattle.books.specs.Reading.{top}
use Rattle.books.proofs.Tops.{top_no_names, top_no_values, top_no_book, top_no_order_name, top_ok}
use Rattle.books.proofs.top.read_top.Goals as goal

pub returns-in_err-text : goal.returns-in_err-text
returns-in_err-text c =
    passed _ (λ f. top c.args.text.now ≡ Err f) c.in_err-text.field-0.0 c.from_residual.result c.from_residual.ensures.1
    (top_no_names c.args.text.now _ c.in_err-text.ensures)

pub returns-in_err-pieces : goal.returns-in_err-pieces
returns-in_err-pieces c =
    passed _ (λ f. top c.args.text.now ≡ Err f) c.in_err-pieces.field-0.0 c.from_residual-in_err-pieces.result c.from_residual-in_err-pieces.ensures.1
    (top_no_values c.args.text.now c.in_ok-text.text.now c.in_ok-text.ensures _ c.in_err-pieces.ensures)

pub returns-in_err-book : goal.returns-in_err-book
returns-in_err-book c =
    let v = c.in_ok-pieces in
    let t = c.in_ok-text.text.now in
    passed _ (λ e. top c.args.text.now ≡ Err e) c.in_err-book.field-0.0 c.from_residual-in_err-book.result c.from_residual-in_err-book.ensures.1
    (top_no_book c.args.text.now t c.in_ok-text.ensures v.field-0-0 v.text.now v.ensures _ (sym c.in_err-book.ensures))

pub returns-in_err-rest : goal.returns-in_err-rest
returns-in_err-rest c =
    let v = c.in_ok-pieces in
    let t = c.in_ok-text.text.now in
    passed _ (λ e. top c.args.text.now ≡ Err e) c.in_err-rest.field-0.0 c.from_residual-in_err-rest.result c.from_residual-in_err-rest.ensures.1
    (top_no_order_name c.args.text.now t c.in_ok-text.ensures v.field-0-0 v.text.now v.ensures c.in_ok-book.book (sym c.in_ok-book.ensures) _ c.in_err-rest.ensures)

pub returns : goal.returns
returns c =
    let v = c.in_ok-pieces in
    let t = c.in_ok-text.text.now in
    top_ok c.args.text.now t c.in_ok-text.ensures v.field-0-0 v.text.now v.ensures c.in_ok-book.book (sym c.in_ok-book.ensures) c.in_ok-rest.rest.now c.in_ok-rest.ensures
