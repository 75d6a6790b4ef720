use Rattle.std.proofs.Common.{◌≡◌, ℕ, suc, ◌<◌, ◌≤◌, length, get_or}
use Rattle.orders.specs.Factors.{remains, factor_at}
use Rattle.orders.proofs.factoring.factors.Given as goal

abbrev pub invariant-loop-j : goal.invariant-loop-j
invariant-loop-j g l =
    (length l.row ≡ 16)
    × (l.rest ≡ remains g.C.Chain.table l.initial.rest l.j)
    × ((i : ℕ) → l.j ≤ i → i < 16 → get_or l.row i 0 ≡ factor_at g.C.Chain.table l.initial.rest (suc i))
