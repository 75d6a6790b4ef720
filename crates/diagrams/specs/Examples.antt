-- Worked examples over the definitions, by the swap chain: tables of them, and what each row of a table has to say. Assumes nothing.
use Rattle.std.specs.Prelude.{◌≡◌, ℕ, zero, suc, List, [], ◌∷◌, ◌++◌, map}
use Rattle.std.specs.List.{AllByRecursion}
use Rattle.orders.specs.declared.order.Order.{Order}
use Rattle.orders.specs.Orders.{place, then}
use Rattle.orders.specs.Dimension.{dimension}
use Rattle.orders.specs.Tables.{swap}
use Rattle.diagrams.specs.declared.Node.{Node}
use Rattle.diagrams.specs.declared.Task.{Task}
use Rattle.diagrams.specs.declared.Task.TheVariants.{Carry, Pick}
use Rattle.diagrams.specs.Level.{level}
use Rattle.diagrams.specs.Rules.{Outcome, done, full}
use Rattle.diagrams.specs.Work.{task}
use Rattle.diagrams.specs.Counting.{orders_of}

-- the places of the pieces 1 to n
unfoldable pub places : Order → ℕ → List ℕ
places o zero = []
places o (suc n) = places o n ++ (place o (suc n) ∷ [])

-- an order as a row, up to the last piece that moves: the standing order is the empty row
abbrev pub row : Order → List ℕ
row o = places o (dimension o)

-- a node, with its number of orders last
abbrev pub nd : ℕ → ℕ → ℕ → ℕ → ℕ → Node
nd x y lo hi n = record { x = x; y = y; lo = lo; hi = hi; orders = n }

-- Levels: x, y and the level.
abbrev pub Leveled : ℕ × (ℕ × ℕ) → Type 0
Leveled l = level l.0 l.1.0 ≡ l.1.1

abbrev pub levels : List (ℕ × (ℕ × ℕ))
levels = (2, (1, 1)) ∷ (3, (2, 2)) ∷ (3, (1, 3)) ∷ (16, (15, 106)) ∷ (16, (1, 120)) ∷ []

-- Orders, and their rows.
abbrev pub Written : Order × List ℕ → Type 0
Written w = row w.0 ≡ w.1

-- (2,1), which is (2,1,3) too
abbrev pub order_21 : Order
order_21 = swap 2 1

-- (3,1,2)
abbrev pub order_312 : Order
order_312 = then (swap 2 1) (swap 3 2)

abbrev pub orders : List (Order × List ℕ)
orders = (order_21, 2 ∷ 1 ∷ []) ∷ (order_312, 3 ∷ 1 ∷ 2 ∷ []) ∷ []

-- Sets: a table, a number in it and its orders.
pub record Held : Type 0 where
  pub table : List Node
  pub number : ℕ
  pub rows : List (List ℕ)

abbrev pub Holds : Held → Type 0
Holds h = map row (orders_of swap h.table h.number) ≡ h.rows

-- the set of (2,1)
abbrev pub one_turn : List Node
one_turn = nd 2 1 0 1 1 ∷ []

-- all orders of three pieces, as number 4
abbrev pub all_six : List Node
all_six = nd 2 1 1 1 2 ∷ nd 3 2 2 2 4 ∷ nd 3 1 3 2 6 ∷ []

-- the set of (1,3,2) and (3,2,1), as number 3
abbrev pub two_swaps : List Node
two_swaps = nd 3 2 0 1 1 ∷ nd 3 1 2 1 2 ∷ []

abbrev pub sets : List Held
sets =
    record { table = one_turn; number = 2; rows = (2 ∷ 1 ∷ []) ∷ [] }
    ∷ record { table = all_six; number = 4; rows = [] ∷ (2 ∷ 1 ∷ []) ∷ (1 ∷ 3 ∷ 2 ∷ []) ∷ (3 ∷ 1 ∷ 2 ∷ []) ∷ (3 ∷ 2 ∷ 1 ∷ []) ∷ (2 ∷ 3 ∷ 1 ∷ []) ∷ [] }
    ∷ record { table = two_swaps; number = 3; rows = (1 ∷ 3 ∷ 2 ∷ []) ∷ (3 ∷ 2 ∷ 1 ∷ []) ∷ [] }
    ∷ []

-- Work: the room, the table before, the task, what it comes to, and the orders of its answer.
pub record Worked : Type 0 where
  pub room : ℕ
  pub table : List Node
  pub work : Task
  pub comes : Outcome
  pub rows : List (List ℕ)

-- the orders of an answer
abbrev pub rows_of : Outcome → List (List ℕ)
rows_of (done N r n) = map row (orders_of swap N r)
rows_of (full N) = []

abbrev pub ComesOut : Worked → Type 0
ComesOut w = (task swap w.room w.table w.work ≡ w.comes) × (rows_of w.comes ≡ w.rows)

abbrev pub works : List Worked
works =
    -- single of (3,1,2) makes two nodes
    record { room = 2; table = []; work = Carry 1 order_312; comes = done (nd 2 1 0 1 1 ∷ nd 3 2 0 2 1 ∷ []) 3 3; rows = (3 ∷ 1 ∷ 2 ∷ []) ∷ [] }
    -- with room for one it stops after the first
    ∷ record { room = 1; table = []; work = Carry 1 order_312; comes = full (nd 2 1 0 1 1 ∷ []); rows = [] }
    -- the set of (2,1), carried by (2,1), is number 1: the standing order alone
    ∷ record { room = 1; table = one_turn; work = Carry 2 order_21; comes = done one_turn 1 4; rows = [] ∷ [] }
    -- of all six orders two have piece 3 in place 1
    ∷ record { room = 4; table = all_six; work = Pick 4 3 1; comes = done (all_six ++ (nd 3 1 0 2 2 ∷ [])) 5 11; rows = (3 ∷ 2 ∷ 1 ∷ []) ∷ (2 ∷ 3 ∷ 1 ∷ []) ∷ [] }
    -- (1,3,2) and (3,2,1), carried by (2,1,3), which is (2,1): the carried upper branch is joined to the carried lower one, so (3,1) stands over (3,2)
    ∷ record {
      room = 6;
      table = two_swaps;
      work = Carry 3 order_21;
      comes = done (two_swaps ++ (nd 2 1 0 1 1 ∷ nd 3 1 0 4 1 ∷ nd 3 2 0 4 1 ∷ nd 3 1 6 4 2 ∷ [])) 7 10;
      rows = (3 ∷ 1 ∷ 2 ∷ []) ∷ (2 ∷ 3 ∷ 1 ∷ []) ∷ [];
    }
    ∷ []

-- Every row of each table.
pub record ExamplesStand : Type 0 where
  pub level_rows : AllByRecursion Leveled levels
  pub order_rows : AllByRecursion Written orders
  pub set_rows : AllByRecursion Holds sets
  pub work_rows : AllByRecursion ComesOut works
