use Rattle.std.proofs.Common.{◌≡◌, ℕ, suc, ◌+◌, ◌<◌, length, get_or}
use Rattle.orders.specs.Orders.{place}
use Rattle.orders.proofs.chain.Chain.step.Given as goal

abbrev pub invariant-loop-j : goal.invariant-loop-j
invariant-loop-j g l = (length l.digit-items ≡ 16) × ((i : ℕ) → i < l.j → get_or l.digit-items i 0 + 1 ≡ place (g.Self.Chain.table l.x l.y) (suc i))
