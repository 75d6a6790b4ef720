-- The line of an order in a book. Assumes nothing.
use Rattle.std.specs.Prelude.{◌≡◌, ℕ, ◌+◌, List, Some, None, Option}
use Rattle.std.specs.List.{slice_get}
use Rattle.orders.specs.declared.order.Order.{Order}

-- the order stands on the line, where the first code's line is 4
abbrev pub On : List ℕ → Order → ℕ → Type 0
On cs o line = (place : ℕ) × (line ≡ place + 4) × (slice_get cs place ≡ Some o.code)

-- some line that has the order, or none, and then no line has it
abbrev pub OnLine : List ℕ → Order → Option ℕ → Type 0
OnLine cs o (Some line) = On cs o line
OnLine cs o None = (line : ℕ) → On cs o line → ⊥
