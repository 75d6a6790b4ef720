use Rattle.std.proofs.Common.{ap, ◌∙◌}
use Rattle.orders.specs.Orders.{then, inverse}
use Rattle.engine.proofs.Readings.{read_stay, read_move}
use Rattle.engine.proofs.planning.upper.Goals as goal

pub returns-then-z-x : goal.returns-then-z-x
returns-then-z-x g c r = read_stay g.G.Chain.table c.args.x c.place-z.result c.args.hi c.args.k c.place-z.ensures r c.if-z-x.true

pub returns : goal.returns
returns g c r =
    read_move g.G.Chain.table c.args.x c.place-z.result c.args.hi c.args.k c.place-z.ensures r c.then-order.result
    (c.then-order.ensures ∙ ap (then c.args.k) (c.inverse.ensures ∙ ap inverse c.step.ensures)) c.if-z-x.false
