-- Worked examples of numbers, by swaps and by rotations, computed from the definitions. Assumes nothing.
use Rattle.std.specs.Prelude.{◌≡◌, ℕ, List, [], ◌∷◌, Some, None, Option}
use Rattle.std.specs.List.{AllByRecursion}
use Rattle.orders.specs.declared.order.Order.{Order}
use Rattle.orders.specs.Tables.{swap, rotation}
use Rattle.orders.specs.Named.{order}
use Rattle.diagrams.specs.declared.Node.{Node}
use Rattle.diagrams.specs.Moves.{Moves}
use Rattle.diagrams.specs.Examples.{row, all_six}
use Rattle.numbering.specs.Numbered.{order_at, place_of}

-- A set by a chain, a number in it, and the rows of the orders that have it: one, or none.
pub record Fetch : Type 0 where
  pub moves : Moves
  pub table : List Node
  pub set : ℕ
  pub number : ℕ
  pub due : List (List ℕ)

-- the row of an order, if there is one
abbrev pub rows_of : Option Order → List (List ℕ)
rows_of None = []
rows_of (Some o) = row o ∷ []

abbrev pub Fetches : Fetch → Type 0
Fetches f = rows_of (order_at f.moves f.table f.set f.number) ≡ f.due

-- All orders of three pieces are one table by both chains: three nodes, and the set is number 4.
abbrev pub fetched : List Fetch
fetched =
    -- number 4 is (3,2,1) by swaps, and (2,3,1) by rotations
    record { moves = swap; table = all_six; set = 4; number = 4; due = (3 ∷ 2 ∷ 1 ∷ []) ∷ [] }
    ∷ record { moves = rotation; table = all_six; set = 4; number = 4; due = (2 ∷ 3 ∷ 1 ∷ []) ∷ [] }
    -- number 0 is the standing order, 5 is the last, and there is no number 6
    ∷ record { moves = swap; table = all_six; set = 4; number = 0; due = [] ∷ [] }
    ∷ record { moves = swap; table = all_six; set = 4; number = 5; due = (2 ∷ 3 ∷ 1 ∷ []) ∷ [] }
    ∷ record { moves = swap; table = all_six; set = 4; number = 6; due = [] }
    ∷ record { moves = rotation; table = all_six; set = 4; number = 6; due = [] }
    ∷ []

-- A set by a chain, an order by its row, and the order's number.
pub record Place : Type 0 where
  pub moves : Moves
  pub table : List Node
  pub set : ℕ
  pub sought : List ℕ
  pub due : Option ℕ

abbrev pub Places : Place → Type 0
Places p = place_of p.moves p.table p.set (order p.sought) ≡ p.due

abbrev pub placed : List Place
placed =
    record { moves = swap; table = all_six; set = 4; sought = 3 ∷ 2 ∷ 1 ∷ []; due = Some 4 }
    ∷ record { moves = rotation; table = all_six; set = 4; sought = 2 ∷ 3 ∷ 1 ∷ []; due = Some 4 }
    -- (1,2,4,3) is no order of three pieces
    ∷ record { moves = swap; table = all_six; set = 4; sought = 1 ∷ 2 ∷ 4 ∷ 3 ∷ []; due = None }
    ∷ []

-- Every row of both tables.
pub record ExamplesStand : Type 0 where
  pub fetch_rows : AllByRecursion Fetches fetched
  pub place_rows : AllByRecursion Places placed
