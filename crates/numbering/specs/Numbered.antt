-- The orders of a set, numbered from 0. Assumes nothing.
use Rattle.std.specs.Prelude.{◌≡◌, ℕ, zero, suc, ◌≤◌, Bool, true, false, ◌↔◌, List, [], ◌∷◌, length, Some, None, Option, MatchOption}
use Rattle.orders.specs.declared.order.Order.{Order}
use Rattle.diagrams.specs.declared.Node.{Node}
use Rattle.diagrams.specs.Moves.{Moves, same}
use Rattle.diagrams.specs.Table.{count_of, In}
use Rattle.diagrams.specs.Counting.{Has, Distinct, orders_of}
use Rattle.numbering.specs.Before.{Before}

-- exactly k orders have the property P: they stand in a list of that length, each once, and no other
pub record Many (P : Order → Type 0) (k : ℕ) : Type 0 where
  pub list : List Order
  pub once : Distinct list
  pub long : length list ≡ k
  pub exact : (o : Order) → Has list o ↔ P o

-- o has the number k in the set of n: it is in the set, and exactly k orders of the set come before it (its rank is k)
pub record Numbered (g : Moves) (N : List Node) (n k : ℕ) (o : Order) : Type 0 where
  pub inside : In g N n o
  pub before : Many (λ p. In g N n p × Before g p o) k

-- the element at k, if there is one
unfoldable pub item : List Order → ℕ → Option Order
item [] k = None
item (a ∷ l) zero = Some a
item (a ∷ l) (suc k) = item l k

-- by the test that the first is the one, and the place in the rest
abbrev pub place_by : Bool → Option ℕ → Option ℕ
place_by true r = Some 0
place_by false None = None
place_by false (Some k) = Some (suc k)

-- the first place at which o stands, if there is one
unfoldable pub place_in : List Order → Order → Option ℕ
place_in [] o = None
place_in (a ∷ l) o = place_by (same a o) (place_in l o)

module _ (g : Moves) (N : List Node) (n : ℕ) where
  -- the order with the number k in the set of n
  unfoldable pub order_at : ℕ → Option Order
  order_at k = item (orders_of g N n) k

  -- the number of o in the set of n
  unfoldable pub place_of : Order → Option ℕ
  place_of o = place_in (orders_of g N n) o

  -- r is the order with the number k, and there is none just where k is not below the count
  abbrev pub Fetched : ℕ → Option Order → Type 0
  Fetched k r = MatchOption r (count_of N n ≤ k) (Numbered g N n k)

  -- r is the number of o, and there is none just where o is not in the set
  abbrev pub Placed : Order → Option ℕ → Type 0
  Placed o r = MatchOption r (In g N n o → ⊥) (λ k. Numbered g N n k o)
