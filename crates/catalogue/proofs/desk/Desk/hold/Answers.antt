use Rattle.std.proofs.Common.{ap, ◌∙◌}
use Rattle.std.proofs.Math.Logic.{∥∥₁_map}
use Rattle.store.specs.Views.{view}
use Rattle.store.specs.Questions.{handle_asked}
use Rattle.store.proofs.Worked.{accepted}
use Rattle.catalogue.specs.Requests.{handle_named}
use Rattle.catalogue.specs.Racks.{slots_of, hold_on}
use Rattle.catalogue.proofs.Racking.{given, racked_out}
use Rattle.catalogue.proofs.Makes.{held_racked}
use Rattle.catalogue.proofs.desk.Desk.hold.Goals as goal

pub put-requires-clause-there : goal.put-requires-clause-there
put-requires-clause-there g c =
    let w = view c.args.self.now.store.now in
    (given g.G.Chain.table w (view c.hold.new.self) c.in_ok-handle.handle c.args.peg c.in_ok-hold.hold c.in_ok-hold.ensures.does.after).within

pub put-requires-clause-empty : goal.put-requires-clause-empty
put-requires-clause-empty g c =
    let d = c.args.self.now in
    let w = view d.store.now in
    let it = given g.G.Chain.table w (view c.hold.new.self) c.in_ok-handle.handle c.args.peg c.in_ok-hold.hold c.in_ok-hold.ensures.does.after in
    (racked_out w (slots_of d.rack) d.racked).each c.args.peg ∙ ap (hold_on w.plan.mark c.args.peg) it.free

pub invariant_of-self-2 : goal.invariant_of-self-2
invariant_of-self-2 g c =
    let d = c.args.self.now in
    let name = handle_named c.args.name in
    let yes = accepted (handle_asked (view d.store.now) name) name c.in_ok-handle.handle c.in_ok-handle.ensures in
    record {
      racked = ∥∥₁_map d.racked (λ k. held_racked d.store.now c.hold.new.self c.args.name c.in_ok-handle.handle c.args.peg c.in_ok-hold.hold yes.1 c.in_ok-hold.ensures.does
          (slots_of d.rack) (slots_of c.put.new.self) d.store.now.long k c.put.ensures);
    }
