use Rattle.std.proofs.Common.{ap, ◌∙◌}
use Rattle.orders.specs.declared.order.Order.{Order}
use Rattle.orders.specs.Orders.{place, inverse}
use Rattle.engine.proofs.Readings.{read_pick}
use Rattle.engine.proofs.planning.pick.Goals as goal

pub returns : goal.returns
returns g c =
    read_pick g.G.Chain.table c.args.a c.args.k c.args.p c.place-from.result c.get-node.ensures
    (c.place-from.ensures ∙ ap (λ (h : Order). place h c.args.p) (c.inverse.ensures ∙ ap inverse c.step.ensures))
