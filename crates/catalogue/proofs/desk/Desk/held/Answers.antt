use Rattle.std.proofs.Common.{Err, sym, ap, ◌∙◌}
use Rattle.orders.specs.declared.refusal.Refusal.TheVariants.{NoSuchHold}
use Rattle.store.specs.Views.{view}
use Rattle.store.specs.Steps.{handle_at, handle_held}
use Rattle.sheets.proofs.Endings.{fault_is}
use Rattle.sheets.proofs.Given.{given_ok, given_err}
use Rattle.catalogue.specs.Racks.{slots_of}
use Rattle.catalogue.proofs.Racking.{racked_lacks, racked_out}
use Rattle.catalogue.proofs.desk.Desk.held.Goals as goal

pub returns-in_err-hold : goal.returns-in_err-hold
returns-in_err-hold g c =
    let d = c.args.self.now in
    let R = slots_of d.rack in
    let f = c.in_err-hold.field-0.0 in
    let no = given_err c.find.result NoSuchHold c.ok_or.result c.ok_or.ensures.value _ _ c.find.ensures f c.in_err-hold.was in
    fault_is f c.from_residual.result c.from_residual.ensures.1 ∙ ap Err no.1
    ∙ sym (ap (handle_at (view d.store.now)) (racked_lacks (view d.store.now) R (racked_out (view d.store.now) R d.racked) c.args.claim no.0))

pub returns : goal.returns
returns g c =
    let yes = given_ok c.find.result NoSuchHold c.ok_or.result c.ok_or.ensures.value _ _ c.find.ensures c.in_ok-hold.hold c.in_ok-hold.was in
    c.held.ensures ∙ ap (handle_held (view c.args.self.now.store.now)) yes.0
