use Rattle.std.proofs.Common.{◌≡◌, ℕ, ◌≤◌, ◌∙◌, subst, Decides, arith}
use Rattle.orders.specs.declared.order.Order.{Order}
use Rattle.numbering.proofs.Walks.{parts_below, place_none, place_standing, place_low, place_high, place_gone, place_fits}
use Rattle.numbering.proofs.set.Set.+place_of.Given as given
use Rattle.numbering.proofs.set.Set.+place_of.Goals as goal
use Rattle.numbering.proofs.set.Set.+place_of.Goals.{Else-self-eq1}

-- a number that is neither 0 nor 1 is a node's
module _ (g : given.Over) (t : ℕ) (c : Else-self-eq1 g t) where
  node : 2 ≤ c.args.self.number
  node = omega (arith, c.if-self-eq0.false, c.if-self-eq1.false)

pub returns-then-self-eq0 : goal.returns-then-self-eq0
returns-then-self-eq0 g t c =
    let q = place_none g.G.Chain.table g.met.G.Chain.laws c.args.self c.args.order c.if-self-eq0.true in
    record { is = q.0; placed = q.1 }

pub returns-then-self-eq1 : goal.returns-then-self-eq1
returns-then-self-eq1 g t c =
    let q = place_standing g.G.Chain.table g.met.G.Chain.laws c.args.self c.args.order c.eq.result c.if-self-eq1.true
    (subst (λ (o : Order). Decides c.eq.result (c.args.order ≡ o)) c.standing.ensures c.eq.ensures.order) in
    record { is = rw c.then_some.ensures q.0; placed = rw c.then_some.ensures q.1 }

pub place_of-requires : goal.place_of-requires
place_of-requires g t c κs within =
    let n = node g t (goal.at.place_of-requires g t c).Else-self-eq1 in
    (omega (arith, c.decreases, parts_below g.G.Chain.table g.met.G.Chain.laws c.args.self c.split-x.result n c.split-x.ensures), within)

pub returns-then-place-y : goal.returns-then-place-y
returns-then-place-y g t c =
    let n = node g t (goal.at.returns-then-place-y g t c).Else-self-eq1 in
    let q = place_low g.G.Chain.table g.met.G.Chain.laws c.args.self c.split-x.result n c.split-x.ensures
    c.args.order c.place_of.result c.place.result c.place.ensures c.if-place-y.true c.place_of.ensures.is in
    record { is = q.0; placed = q.1 }

pub place_of-requires-2 : goal.place_of-requires-2
place_of-requires-2 g t c κs within =
    let n = node g t (goal.at.place_of-requires-2 g t c).Else-self-eq1 in
    (omega (arith, c.decreases, parts_below g.G.Chain.table g.met.G.Chain.laws c.args.self c.split-x.result n c.split-x.ensures), within)

pub returns-in_err-k : goal.returns-in_err-k
returns-in_err-k g t c =
    let n = node g t (goal.at.returns-in_err-k g t c).Else-self-eq1 in
    let q = place_gone g.G.Chain.table g.met.G.Chain.laws c.args.self c.split-x.result n c.split-x.ensures
    c.args.order c.step.result c.inverse.result c.then.result c.place.result c.place.ensures c.if-place-y.false c.step.ensures c.inverse.ensures c.then.ensures c.in_err-k.ensures.is in
    record { is = c.from_residual.ensures ∙ q.0; placed = rw c.from_residual.ensures q.1 }

pub overflow_add-result : goal.overflow_add-result
overflow_add-result g t c =
    let n = node g t (goal.at.overflow_add-result g t c).Else-self-eq1 in
    let fits = place_fits g.G.Chain.table g.met.G.Chain.laws c.args.self c.split-x.result n c.split-x.ensures
    c.then.result c.in_ok-k.k c.count.result c.in_ok-k.ensures.placed c.count.ensures.is in
    omega arith

pub returns : goal.returns
returns g t c =
    let n = node g t (goal.at.returns g t c).Else-self-eq1 in
    let q = place_high g.G.Chain.table g.met.G.Chain.laws c.args.self c.split-x.result n c.split-x.ensures
    c.args.order c.step.result c.inverse.result c.then.result c.in_ok-k.k c.count.result c.place.result c.place.ensures c.if-place-y.false
    c.step.ensures c.inverse.ensures c.then.ensures c.in_ok-k.ensures.is c.count.ensures.is in
    record { is = q.0; placed = q.1 }
