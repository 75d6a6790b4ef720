use Rattle.store.specs.Views.{view}
use Rattle.store.proofs.Worked.{accepted, handle_there}
use Rattle.store.proofs.store.Store.count.Goals as goal

pub set-requires : goal.set-requires
set-requires g c =
    let yes = accepted _ _ _ c.in_ok-number_of.ensures in
    rw yes.1 (handle_there (view c.args.self.now) c.args.handle yes.0).1
