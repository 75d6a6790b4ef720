-- Which bytes are accepted: those of a book. Assumes nothing.
use Rattle.std.specs.Prelude.{◌≡◌, ℕ, ◌≤◌, List, map, length, Ok, Err, Result}
use Rattle.std.specs.List.{AllByRecursion}
use Rattle.orders.specs.declared.order.Order.{Order}
use Rattle.orders.specs.Dimension.{dimension}
use Rattle.sheets.specs.declared.fault.Fault.{Fault}
use Rattle.books.specs.declared.top.Book.{Book}
use Rattle.books.specs.Format.{book_bytes}

-- the text is the book of these orders: 2 to 16 pieces, chain 1 or 2, and no order moves a piece beyond the pieces
pub record IsBook (text : List ℕ) (b : Book) (os : List Order) : Type 0 where
  pub pieces_min : 2 ≤ b.pieces
  pub pieces_max : b.pieces ≤ 16
  pub chain_min : 1 ≤ b.chain
  pub chain_max : b.chain ≤ 2
  pub within : AllByRecursion (λ o. dimension o ≤ b.pieces) os
  pub bytes : text ≡ book_bytes b.pieces b.chain os

-- accepted: the text is the book of some orders, and the list has just their codes, in turn; refused: it is no book that the list has room for
abbrev pub Exact : ℕ → List ℕ → List ℕ → Result Book Fault → Type 0
Exact room text cs (Ok b) = (os : List Order) × IsBook text b os × (cs ≡ map (λ o. o.code) os) × (length os ≤ room)
Exact room text cs (Err f) = (b : Book) (os : List Order) → IsBook text b os → length os ≤ room → ⊥
