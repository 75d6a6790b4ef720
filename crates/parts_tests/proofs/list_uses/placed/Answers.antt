use Rattle.std.proofs.Common.{◌≡◌, ℕ, length, Some, None, Ok, Err, Result, MatchResult}
use Rattle.std.specs.List.{slice_get}
use Rattle.orders.specs.declared.refusal.Refusal.{Refusal}
use Rattle.orders.specs.declared.refusal.Refusal.TheVariants.{NoRoom}
use Rattle.lists.specs.declared.filled.Filled.{Filled}
use Rattle.lists.specs.Items.{items_of, room_of, Added, Found}
use Rattle.lists.proofs.Places.{grown_there}
use Rattle.parts_tests.proofs.list_uses.placed.Goals as goal

-- a record that was missing, and was added or found no room
by_add : {X : Type 0} (before after : Filled X) (x : X) (r : Result ℕ Refusal) → Found (items_of before) x None → Added before after x r
    → MatchResult r (λ i. slice_get (items_of after) i ≡ Some x)
    (λ e. (e ≡ NoRoom) × (length (items_of before) ≡ length (room_of before)) × Found (items_of before) x None × (after ≡ before))
by_add before after x (Ok place) missing grown = grown_there before after x place grown
by_add before after x (Err e) missing declined = (declined.number, declined.full, missing, declined.same)

pub returns-in-None : goal.returns-in-None
returns-in-None c = record {
  answer = by_add _ _ c.args.line c.add.result c.in-None.ensures c.add.ensures.answer;
  lender = c.add.ensures.lender;
}
