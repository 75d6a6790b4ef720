use Rattle.std.proofs.Common.{Some, Err, Result, sym, ap, ◌∙◌, subst}
use Rattle.std.proofs.Math.Logic.{∥∥₁_map}
use Rattle.orders.specs.declared.refusal.Refusal.{Refusal}
use Rattle.orders.specs.declared.refusal.Refusal.TheVariants.{NoSuchHold}
use Rattle.store.specs.declared.hold.Hold.{Hold}
use Rattle.store.specs.Views.{view}
use Rattle.store.specs.Holding.{Holds}
use Rattle.sheets.proofs.Endings.{fault_is}
use Rattle.sheets.proofs.Given.{given_ok, given_err}
use Rattle.catalogue.specs.declared.request.Claim.{Claim}
use Rattle.catalogue.specs.Serves.{Releases}
use Rattle.catalogue.specs.Racks.{slots_of}
use Rattle.catalogue.proofs.Racking.{racked_held, racked_out}
use Rattle.catalogue.proofs.Makes.{released_racked, returned_does}
use Rattle.catalogue.proofs.desk.Desk.release.Goals as goal

pub returns-in_err-hold-clause-is : goal.returns-in_err-hold-clause-is
returns-in_err-hold-clause-is g c =
    let d = c.args.self.now in
    let R = slots_of d.rack in
    let f = c.in_err-hold.field-0.0 in
    let no = given_err c.take.result (NoSuchHold, c.args.claim) c.ok_or.result c.ok_or.ensures.value _ _ c.take.ensures f c.in_err-hold.was in
    let is = fault_is f c.from_residual.result c.from_residual.ensures.1 ∙ ap Err no.1 in
    subst (λ (r : Result (Unit {0}) (Refusal × Claim)). Releases d.store.now c.args.claim d.store.now r) (sym is)
    (returned_does d.store.now d.store.now R R c.args.claim (racked_out (view d.store.now) R d.racked) no.0.0)

pub give_back-requires : goal.give_back-requires
give_back-requires g c =
    let d = c.args.self.now in
    let w = view d.store.now in
    let R = slots_of d.rack in
    let took = given_ok c.take.result (NoSuchHold, c.args.claim) c.ok_or.result c.ok_or.ensures.value _ _ c.take.ensures c.in_ok-hold.hold c.in_ok-hold.was in
    subst (λ (x : Hold). Holds w x) (sym took.hold) (racked_held w R (racked_out w R d.racked) c.args.claim (took.there ∙ ap Some took.hold))

pub invariant_of-self-2 : goal.invariant_of-self-2
invariant_of-self-2 g c =
    let d = c.args.self.now in
    let took = given_ok c.take.result (NoSuchHold, c.args.claim) c.ok_or.result c.ok_or.ensures.value _ _ c.take.ensures c.in_ok-hold.hold c.in_ok-hold.was in
    record {
      racked = ∥∥₁_map d.racked (λ k. released_racked d.store.now c.give_back.new.self (slots_of d.rack) (slots_of c.take.new.self) c.args.claim k c.in_ok-hold.hold took c.give_back.ensures d.store.now.long);
    }
