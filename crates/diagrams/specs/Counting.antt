-- The orders of a set in a list. Assumes nothing.
use Rattle.std.specs.Prelude.{◌≡◌, ℕ, zero, suc, ◌*◌, ◌⊎◌, List, [], ◌∷◌, ◌++◌, map}
use Rattle.orders.specs.declared.order.Order.{Order}
use Rattle.orders.specs.Orders.{standing, then}
use Rattle.diagrams.specs.declared.Node.{Node}
use Rattle.diagrams.specs.Moves.{Moves}
use Rattle.diagrams.specs.Table.{fold}

-- o is one of the orders of a list
abbrev pub Has : List Order → Order → Type 0
Has [] o = ⊥
Has (a ∷ l) o = (a ≡ o) ⊎ Has l o

-- no order stands twice in a list
abbrev pub Distinct : List Order → Type 0
Distinct [] = Unit {0}
Distinct (a ∷ l) = (Has l a → ⊥) × Distinct l

module _ (g : Moves) where
  -- an order of a node's high part, followed by the node's move
  abbrev pub moved : Node → Order → Order
  moved a o = then o (g a.x a.y)

  -- the orders of a node, from those of its parts
  abbrev pub list_of_node : Node → List Order → List Order → List Order
  list_of_node a low high = low ++ map (moved a) high

  -- the orders of the number n, one after the other: those of the low part first
  unfoldable pub orders_of : List Node → ℕ → List Order
  orders_of N n = fold [] (standing ∷ []) list_of_node (suc n) N n

-- how many orders n pieces have
unfoldable pub factorial : ℕ → ℕ
factorial zero = 1
factorial (suc n) = suc n * factorial n
