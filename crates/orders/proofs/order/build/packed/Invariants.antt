use Rattle.std.proofs.Common.{◌≡◌, get_or, length, take}
use Rattle.orders.proofs.Shifts.{packed_from}
use Rattle.orders.proofs.order.build.packed.Given as goal

-- what is left to go through is the front of the row
abbrev pub invariant-loop-d : goal.invariant-loop-d
invariant-loop-d l =
    (goal.iterator-loop-d).can_next l.d-iterator
    × (goal.iterator-loop-d).is_finite l.d-iterator
    × (l.d-iterator.iter.rest.now ≡ take (length l.d-iterator.iter.rest.now) l.fn.row)
    × (l.code ≡ packed_from (λ i. get_or l.fn.row i 0) (length l.d-iterator.iter.rest.now))
