use Rattle.std.proofs.Common.{ℕ, ◌<◌, ◌≤◌, arith}
use Rattle.diagrams.specs.Table.{count_of}
use Rattle.tables.specs.Rows.{rows}
use Rattle.numbering.proofs.Walks.{is_node, parts_below, fetch_none, fetch_one, fetch_low, fetch_high, fetch_some}
use Rattle.numbering.proofs.set.Set.+order_at.Given as given
use Rattle.numbering.proofs.set.Set.+order_at.Goals as goal
use Rattle.numbering.proofs.set.Set.+order_at.Goals.{Else-self-eq1}

-- a number below the count, which is not 1: the number is a node's
module _ (g : given.Over) (t : ℕ) (c : Else-self-eq1 g t) where
  below : c.args.k < count_of (rows c.args.self.table.now) c.args.self.number
  below = omega (arith, c.count.ensures.is, c.if-k-count.false)

  node : 2 ≤ c.args.self.number
  node = is_node (rows c.args.self.table.now) c.args.self.number c.args.k below c.if-self-eq1.false

pub returns-then-k-count : goal.returns-then-k-count
returns-then-k-count g t c =
    let q = fetch_none g.G.Chain.table g.met.G.Chain.laws c.args.self c.args.k (omega (arith, c.count.ensures.is, c.if-k-count.true)) in
    record { is = q.0; fetched = q.1 }

pub returns-then-self-eq1 : goal.returns-then-self-eq1
returns-then-self-eq1 g t c =
    let q = fetch_one g.G.Chain.table g.met.G.Chain.laws c.args.self c.args.k c.standing.result
    c.if-self-eq1.true (omega (arith, c.count.ensures.is, c.if-k-count.false)) c.standing.ensures in
    record { is = q.0; fetched = q.1 }

pub split-x-requires : goal.split-x-requires
split-x-requires = node

pub order_at-requires : goal.order_at-requires
order_at-requires g t c κs within =
    let n = node g t (goal.at.order_at-requires g t c).Else-self-eq1 in
    (omega (arith, c.decreases, parts_below g.G.Chain.table g.met.G.Chain.laws c.args.self c.split-x.result n c.split-x.ensures), within)

pub returns-then-k-before : goal.returns-then-k-before
returns-then-k-before g t c =
    let n = node g t (goal.at.returns-then-k-before g t c).Else-self-eq1 in
    let q = fetch_low g.G.Chain.table g.met.G.Chain.laws c.args.self c.split-x.result n c.split-x.ensures
    c.args.k c.order_at.result (omega (arith, c.count-before.ensures.is, c.if-k-before.true)) c.order_at.ensures.is in
    record { is = q.0; fetched = q.1 }

pub order_at-requires-2 : goal.order_at-requires-2
order_at-requires-2 g t c κs within =
    let n = node g t (goal.at.order_at-requires-2 g t c).Else-self-eq1 in
    (omega (arith, c.decreases, parts_below g.G.Chain.table g.met.G.Chain.laws c.args.self c.split-x.result n c.split-x.ensures), within)

pub returns-in_err-order : goal.returns-in_err-order
returns-in_err-order g t c =
    let r = (goal.at.returns-in_err-order g t c).Else-self-eq1 in
    absurd (fetch_some g.G.Chain.table g.met.G.Chain.laws c.args.self c.split-x.result (node g t r) c.split-x.ensures
    c.args.k c.count-before.result (below g t r) c.count-before.ensures.is c.if-k-before.false c.in_err-order.ensures.fetched)

pub returns : goal.returns
returns g t c =
    let n = node g t (goal.at.returns g t c).Else-self-eq1 in
    let q = fetch_high g.G.Chain.table g.met.G.Chain.laws c.args.self c.split-x.result n c.split-x.ensures
    c.args.k c.count-before.result c.in_ok-order.order c.step.result c.then.result c.count-before.ensures.is c.if-k-before.false c.in_ok-order.ensures.is
    c.step.ensures c.then.ensures in
    record { is = q.0; fetched = q.1 }
