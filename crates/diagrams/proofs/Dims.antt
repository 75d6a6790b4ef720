-- The dimension of an order, and what an order that leaves the pieces above x does up to x. Assumes nothing.
use Rattle.std.proofs.Common.{◌≡◌, ℕ, ◌<◌, ◌≤◌, arith}
use native.Mathlib.Decide.{dec_lt}
use Rattle.orders.specs.declared.order.Order.{Order}
use Rattle.orders.specs.Dimension.{dimension, dimension_within, dimension_moves, dimension_none}
use Rattle.orders.specs.Orders.{place, standing, place_apart}
use Rattle.diagrams.proofs.Groups.{place_max}

-- an order that leaves d and above has a smaller dimension
pub dim_if : (h : Order) (d : ℕ) → 1 ≤ d → ((k : ℕ) → d ≤ k → k ≤ 16 → place h k ≡ k) → dimension h < d
dim_if h d l f = by (dec_lt (dimension h) d)
  where
    by : Dec (dimension h < d) → dimension h < d
    by (yes q) = q
    by (no q) = absurd (dimension_moves h (omega arith) (f (dimension h) (omega arith) (dimension_within h)))

pub dim_some : (h : Order) → ¬ (h ≡ standing) → 1 ≤ dimension h
dim_some h n = by (dec_lt (dimension h) 1)
  where
    by : Dec (dimension h < 1) → 1 ≤ dimension h
    by (yes q) = absurd (n (dimension_none h (omega arith)))
    by (no q) = omega arith

-- where an order that leaves what is above x sends a piece up to x
pub place_upto : (h : Order) (x k : ℕ) → ((j : ℕ) → x < j → j ≤ 16 → place h j ≡ j) → 1 ≤ k → k ≤ x → x ≤ 16 → place h k ≤ x
place_upto h x k f a b c = by (dec_lt x (place h k))
  where
    by : Dec (x < place h k) → place h k ≤ x
    by (yes q) = absurd (omega (arith, place_apart h (place h k) k (f (place h k) q (place_max h k a (omega arith)))))
    by (no q) = omega arith
