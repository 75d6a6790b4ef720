-- Rows of numbers that are orders. Assumes nothing.
use Rattle.std.specs.Prelude.{ℕ, ◌-◌, Bool, List, slice_index_or}
use Rattle.orders.specs.Named.{spreads, order}

-- each piece has a place of its own, where the pieces beyond the row stand still: so the row has each number from 1 to its length once
unfoldable pub is_row : List ℕ → Bool
is_row row = spreads (λ k. slice_index_or row (k - 1) k)

-- the code of the order that a row writes out
unfoldable pub code_of : List ℕ → ℕ
code_of row = (order row).code
