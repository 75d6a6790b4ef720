-- The test of two orders. Assumes nothing.
use Rattle.std.proofs.Common.{◌≡◌, Bool, true, false, Decides, sym, refl, ap, eq-eqb, ne_eqb}
use mathlib.Core.Bool.{false≢true}
use Rattle.orders.specs.declared.order.Order.{Order}
use Rattle.orders.specs.Orders.{code_tells}
use Rattle.diagrams.specs.Moves.{same}

pub decided : (r : Bool) (h k : Order) → Decides r (h ≡ k) → r ≡ same h k
decided true h k d = sym (eq-eqb h.code k.code (ap (λ (o : Order). o.code) (d.0 refl)))
decided false h k d = sym (ne_eqb h.code k.code (λ e. false≢true (d.1 (code_tells h k e))))
