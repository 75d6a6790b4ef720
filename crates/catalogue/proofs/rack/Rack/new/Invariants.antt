use Rattle.std.proofs.Common.{◌≡◌, ◌≤◌, replicate, None, vec_items, vec_len, vec_capacity}
use Rattle.catalogue.proofs.rack.Rack.new.Given as goal

abbrev pub invariant-loop : goal.invariant-loop
invariant-loop l = record {
  items : vec_items l.slots ≡ replicate l.counter None;
  len : vec_len l.slots ≡ l.counter;
  room : 64 ≤ vec_capacity l.slots;
}
