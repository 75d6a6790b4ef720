use Rattle.std.proofs.Common.{ap, ◌∙◌}
use Rattle.orders.specs.declared.order.Order.{Order}
use Rattle.orders.specs.Orders.{then, inverse}
use Rattle.engine.specs.Plans.{rest_of}
use Rattle.engine.proofs.Readings.{read_lift, read_turn}
use Rattle.engine.proofs.planning.carry.Goals as goal

pub returns-then-p-d : goal.returns-then-p-d
returns-then-p-d g c =
    read_lift g.G.Chain.table c.args.a c.args.h c.dimension-d.result c.place-z.result c.then.result c.get-p.ensures
    c.dimension-d.ensures c.place-z.ensures
    (c.then.ensures ∙ ap (then c.args.h) (c.inverse.ensures ∙ ap inverse c.step.ensures)) c.if-p-d.true

pub returns : goal.returns
returns g c =
    read_turn g.G.Chain.table c.args.a c.args.h c.dimension-d.result c.then-2.result (rest_of c.upper.result) c.get-p.ensures
    c.dimension-d.ensures (c.then-2.ensures ∙ ap (λ (m : Order). then m c.args.h) c.step-2.ensures) c.if-p-d.false c.upper.ensures
