-- The bytes of a book. Assumes nothing.
use Rattle.std.specs.Prelude.{ℕ, List, [], ◌∷◌, ◌++◌, take, codes}
use Rattle.std.specs.List.{flat_map}
use Rattle.orders.specs.declared.order.Order.{Order}
use Rattle.orders.specs.Entries.{row_of}
use Rattle.lines.specs.Format.{line}

-- line 1, the names of the first table
abbrev pub head : List ℕ
head = codes "pieces chain" ++ 10 ∷ []

-- line 3, the name of the second
abbrev pub order_name : List ℕ
order_name = codes "order" ++ 10 ∷ []

-- the line of an order: its row, as long as there are pieces
abbrev pub order_line : ℕ → Order → List ℕ
order_line pieces o = line (take pieces (row_of o))

-- the book of some orders
unfoldable pub book_bytes : ℕ → ℕ → List Order → List ℕ
book_bytes pieces chain os = head ++ (line (pieces ∷ chain ∷ []) ++ (order_name ++ flat_map (order_line pieces) os))
