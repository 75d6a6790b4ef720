-- Which of two orders comes before the other: a definition on their factors. Assumes nothing.
use Rattle.std.specs.Prelude.{◌≡◌, ℕ, ◌<◌}
use Rattle.orders.specs.declared.order.Order.{Order}
use Rattle.orders.specs.Factors.{factor_at}
use Rattle.diagrams.specs.Moves.{Moves}

-- a comes before b: at the largest x at which their factors differ, a has the greater y (which is x itself where there is no factor)
pub record Before (g : Moves) (a b : Order) : Type 0 where
  pub x : ℕ
  pub above : (z : ℕ) → x < z → factor_at g a z ≡ factor_at g b z
  pub greater : factor_at g b x < factor_at g a x
