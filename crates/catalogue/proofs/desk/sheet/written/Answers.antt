use Rattle.std.proofs.Common.{sym, ◌∙◌}
use Rattle.store.specs.Views.{view}
use Rattle.sheets.proofs.Endings.{fault_is}
use Rattle.catalogue.specs.Requests.{handle_named}
use Rattle.catalogue.proofs.Makes.{sheet_declined}
use Rattle.catalogue.proofs.desk.sheet.written.Goals as goal

pub returns-in_err-handle : goal.returns-in_err-handle
returns-in_err-handle g c =
    let name = handle_named c.args.name in
    let f = c.in_err-handle.field-0.0 in
    sheet_declined g.G.Chain.CODE (view c.args.store.now) name c.args.page.now c.args.page.now name f c.from_residual.result (sym c.in_err-handle.was ∙ c.known.ensures)
    (fault_is f c.from_residual.result c.from_residual.ensures.1)
