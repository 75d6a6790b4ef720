-- What each kind of work is: its set, what it may be asked, and how deep it goes. Assumes nothing.
use Rattle.std.specs.Prelude.{◌≡◌, ℕ, suc, ◌+◌, ◌*◌, ◌≤◌, max, Bool, false, not, ◌&&◌, ◌||◌, ◌⊎◌, List, ◌==◌}
use Rattle.orders.specs.declared.order.Order.{Order}
use Rattle.diagrams.specs.declared.Node.{Node}
use Rattle.diagrams.specs.declared.Task.{Task}
use Rattle.diagrams.specs.declared.Task.TheVariants.{Join, Meet, Without, Carry, Follow, Pick}
use Rattle.orders.specs.Orders.{place, then, inverse}
use Rattle.orders.specs.Dimension.{dimension}
use Rattle.diagrams.specs.Moves.{Moves}
use Rattle.diagrams.specs.Table.{Exists, x_of, level_of, fold, at_node, mem, In}
use Rattle.diagrams.specs.Rules.{Outcome}
use Rattle.diagrams.specs.Script.{deep}
use Rattle.diagrams.specs.Bodies.{body}

-- the numbers of a task are there, and its piece and place are those of sixteen pieces
abbrev pub Valid : List Node → Task → Type 0
Valid N (Join a b) = Exists N a × Exists N b
Valid N (Meet a b) = Exists N a × Exists N b
Valid N (Without a b) = Exists N a × Exists N b
Valid N (Carry a h) = Exists N a
Valid N (Follow a b) = Exists N a × Exists N b
Valid N (Pick a k p) = Exists N a × (k ≤ 16) × (1 ≤ p) × (p ≤ 16)

-- how many calls deep a task may go
unfoldable pub depth : ℕ
depth = 2600

-- what falls at each task that a task enters: a kind's rank, and then levels
abbrev pub measure : List Node → Task → ℕ
measure N (Join a b) = level_of N a + level_of N b
measure N (Meet a b) = level_of N a + level_of N b
measure N (Without a b) = level_of N a + level_of N b
measure N (Pick a k p) = level_of N a
measure N (Carry a h) = 250 + (max (x_of N a) (dimension h) * 128 + level_of N a)
measure N (Follow a b) = 2450 + level_of N b

module _ (g : Moves) where
  -- the orders αβ, with α of a and β of b: by the parts of b
  unfoldable pub followed : List Node → ℕ → ℕ → Order → Bool
  followed N a b = fold (λ o. false) (mem g N a) (at_node g) (suc b) N b

  -- The orders that a task is to find, in words of orders.
  abbrev pub Sought : List Node → Task → Order → Type 0
  -- those of a or b
  Sought N (Join a b) o = (In g N a o) ⊎ (In g N b o)
  -- those of a and b
  Sought N (Meet a b) o = In g N a o × In g N b o
  -- those of a that b has not
  Sought N (Without a b) o = In g N a o × (In g N b o → ⊥)
  -- all αh, with α of a
  Sought N (Carry a h) o = (α : Order) × (In g N a α × (o ≡ then α h))
  -- all αβ, with α of a and β of b
  Sought N (Follow a b) o = (α : Order) × ((β : Order) × (In g N a α × (In g N b β × (o ≡ then α β))))
  -- those of a with piece k in place p
  Sought N (Pick a k p) o = In g N a o × (place o k ≡ p)

  -- the same as a test (`set_is` in proofs/)
  abbrev pub Set : List Node → Task → Order → Bool
  Set N (Join a b) o = mem g N a o || mem g N b o
  Set N (Meet a b) o = mem g N a o && mem g N b o
  Set N (Without a b) o = mem g N a o && not (mem g N b o)
  Set N (Carry a h) o = mem g N a (then o (inverse h))
  Set N (Follow a b) o = followed N a b o
  Set N (Pick a k p) o = mem g N a o && place o k == p

  -- a task on a table with room for cap nodes
  unfoldable pub task : ℕ → List Node → Task → Outcome
  task cap N t = deep cap (body g) depth N t
