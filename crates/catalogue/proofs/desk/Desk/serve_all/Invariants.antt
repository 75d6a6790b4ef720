use Rattle.std.proofs.Common.{◌≡◌, take, vec_items}
use Rattle.catalogue.specs.Replays.{Played}
use Rattle.catalogue.proofs.desk.Desk.serve_all.Given as goal

abbrev pub invariant-loop-request : goal.invariant-loop-request
invariant-loop-request g l = record {
  lender : l.self.store.ghost_name ≡ l.initial.self.store.ghost_name;
  played : Played l.initial.self.store.now (take l.request-index l.requests) l.self.store.now (vec_items l.answers);
}
