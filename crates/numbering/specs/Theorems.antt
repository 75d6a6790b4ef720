-- The theorems of this crate, as the functions of src/theorems.rt cite them. Assumes nothing.
use Rattle.std.specs.Prelude.{◌≡◌, ℕ, ◌<◌, ◌≤◌, ◌⊎◌, ◌↔◌, List, Some, ◌≢◌}
use Rattle.orders.specs.declared.order.Order.{Order}
use Rattle.orders.specs.Orders.{then}
use Rattle.orders.specs.Chains.{ChainLaws}
use Rattle.diagrams.specs.declared.Node.{Node}
use Rattle.diagrams.specs.Moves.{Moves}
use Rattle.diagrams.specs.Table.{Exists, x_of, y_of, lo_of, hi_of, count_of, In}
use Rattle.diagrams.specs.Theorems.{Always}
use Rattle.numbering.specs.Before.{Before}
use Rattle.numbering.specs.Numbered.{Numbered, order_at, place_of, Fetched, Placed}

-- Coming before is a strict total order.
pub record Strict (g : Moves) : Type 0 where
  -- no order comes before itself
  pub irreflexive : (a : Order) → Before g a a → ⊥
  pub transitive : (a b c : Order) → Before g a b → Before g b c → Before g a c
  -- of two different orders one comes before the other
  pub total : (a b : Order) → (a ≢ b) → (Before g a b) ⊎ (Before g b a)

abbrev pub BeforeStands : Type 0
BeforeStands = (g : Moves) → ChainLaws g → Strict g

-- The numbers of the orders of a set are those below its count, each of one order.
pub record Numbering (g : Moves) (N : List Node) (n : ℕ) : Type 0 where
  -- each number below the count has an order, and one only
  pub order : (k : ℕ) → k < count_of N n → (o : Order) × Numbered g N n k o
  pub one_order : (k : ℕ) (o p : Order) → Numbered g N n k o → Numbered g N n k p → o ≡ p
  -- each order of the set has a number, and one only
  pub number : (o : Order) → In g N n o → (k : ℕ) × Numbered g N n k o
  pub one_number : (o : Order) (k j : ℕ) → Numbered g N n k o → Numbered g N n j o → k ≡ j
  -- a number is below the count
  pub below : (k : ℕ) (o : Order) → Numbered g N n k o → k < count_of N n
  -- the list of the set's orders, those of the low part first and then those of the high part moved, has them by their numbers
  pub listed : (k : ℕ) (o : Order) → (order_at g N n k ≡ Some o) ↔ Numbered g N n k o
  pub placed : (k : ℕ) (o : Order) → (place_of g N n o ≡ Some k) ↔ Numbered g N n k o
  -- and what the list has not is no number, and no order of the set
  pub fetches : (k : ℕ) → Fetched g N n k (order_at g N n k)
  pub places : (o : Order) → Placed g N n o (place_of g N n o)
  -- the orders of a node's low part come before those of its high part
  pub low_first : 2 ≤ n → (a b : Order) → In g N (lo_of N n) a → In g N (hi_of N n) b → Before g a (then b (g (x_of N n) (y_of N n)))

abbrev pub NumberingStands : Type 0
NumberingStands = Always (λ g N. (n : ℕ) → Exists N n → Numbering g N n)
