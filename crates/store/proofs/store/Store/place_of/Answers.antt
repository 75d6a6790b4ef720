use Rattle.store.specs.Views.{view}
use Rattle.store.proofs.Worked.{accepted, both_fine, handle_there}
use Rattle.store.proofs.store.Store.place_of.Goals as goal

pub set-set-requires : goal.set-set-requires
set-set-requires g c =
    let yes = accepted _ _ _ c.in_ok-number_with_order.ensures in
    rw yes.1 (handle_there (view c.args.self.now) c.args.handle (both_fine _ _ yes.0).0).1
