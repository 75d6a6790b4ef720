use Rattle.std.proofs.Common.{ℕ, subst}
use Rattle.std.proofs.Math.Logic.{∥∥₁_map}
use Rattle.std.proofs.lemmas.Result.{err_from_is_err_and}
use Rattle.store.specs.declared.shapes.Handle.{Handle}
use Rattle.store.specs.declared.shapes.SetCall.{SetCall}
use Rattle.store.specs.Views.{view}
use Rattle.store.specs.Steps.{sets}
use Rattle.store.specs.Does.{Does, found_reply, found_entries}
use Rattle.store.proofs.Worked.{accepted}
use Rattle.deposits.proofs.Writings.{asked_no}
use Rattle.catalogue.specs.Requests.{set_call, names_asked}
use Rattle.catalogue.proofs.Makes.{names_no, declined_does, after_sets}
use Rattle.catalogue.proofs.desk.Desk.work.Goals as goal

pub returns-in_err-call-clause-is : goal.returns-in_err-call-clause-is
returns-in_err-call-clause-is g c =
    let s = c.args.self.now.store.now in
    let e = c.in_err-call.field-0.0 in
    let no = asked_no (names_asked (view s) c.args.asked) (set_call c.args.asked) e c.in_err-call.ensures in
    let p = err_from_is_err_and c.from_residual.result c.from_residual.ensures.1 in
    rw (p.1, p.2) (declined_does s (set_call c.args.asked) e (names_no (view s) c.args.asked e no))

pub invariant_of-self-2 : goal.invariant_of-self-2
invariant_of-self-2 g c =
    let d = c.args.self.now in
    record { racked = ∥∥₁_map d.racked (λ k. after_sets g.G.Chain.table (view d.store.now) (view c.work.new.self) _ k c.in_ok-call.call c.work.ensures.does.after) }

pub returns-clause-is : goal.returns-clause-is
returns-clause-is g c =
    let s = c.args.self.now.store.now in
    let yes = accepted (names_asked (view s) c.args.asked) (set_call c.args.asked) c.in_ok-call.call c.in_ok-call.ensures in
    subst (λ (k : SetCall Handle ℕ). Does s (sets k) c.work.new.self (found_reply c.work.result) (found_entries c.work.result)) yes.1 c.work.ensures.does
