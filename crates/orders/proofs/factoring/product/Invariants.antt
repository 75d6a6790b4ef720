use Rattle.std.proofs.Common.{◌≡◌, ◌-◌, slice_index, length}
use Rattle.orders.specs.Factors.{product}
use Rattle.orders.proofs.Numbered.{Numbered}
use Rattle.orders.proofs.factoring.product.Given as goal

abbrev pub invariant-loop-y : goal.invariant-loop-y
invariant-loop-y g l =
    Numbered l.fn.row (length l.yielded) l.y-iterator.a.rest.now l.y-iterator.b
    × (l.order ≡ product g.C.Chain.table (λ x. slice_index l.fn.row (x - 1)) (length l.yielded))
