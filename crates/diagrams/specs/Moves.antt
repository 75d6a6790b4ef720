-- The moves of a chain, and the test of two orders. Assumes nothing.
use Rattle.std.specs.Prelude.{ℕ, Bool, ◌==◌}
use Rattle.orders.specs.declared.order.Order.{Order}
use Rattle.orders.specs.Orders.{then, inverse}

-- a table of moves: `g x y` takes piece x to place y
abbrev pub Moves : Type 0
Moves = ℕ → ℕ → Order

-- two orders are one just where their codes are
abbrev pub same : Order → Order → Bool
same a b = a.code == b.code

-- o with the move of x and y taken off at its end
abbrev pub back : Moves → ℕ → ℕ → Order → Order
back g x y o = then o (inverse (g x y))
