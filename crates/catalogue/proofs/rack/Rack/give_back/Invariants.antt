use Rattle.std.proofs.Common.{◌≡◌, ◌≤◌, vec_items, vec_len}
use Rattle.store.specs.Views.{view, with_pegs}
use Rattle.catalogue.specs.Racks.{Holding}
use Rattle.catalogue.proofs.rack.Rack.give_back.Given as goal

abbrev pub invariant-loop-slot : goal.invariant-loop-slot
invariant-loop-slot g l = record {
  few : vec_len l.rest ≤ 64;
  each : Holding (view l.store) (vec_items l.rest);
  only : view l.store ≡ with_pegs (view l.initial.store) (view l.store).pegs;
}

abbrev pub decreases-loop-slot : goal.decreases-loop-slot
decreases-loop-slot g l = vec_len l.rest
