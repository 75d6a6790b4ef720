-- What two sheets that agree mean. Assumes nothing.
use Rattle.std.specs.Prelude.{◌≡◌, ℕ, ◌<◌, ◌≤◌, ◌↔◌, length}
use Rattle.forms.specs.Theorems.{Across, SameOrders}
use Rattle.deposits.specs.Writing.{sheet_text}

-- Two sheets of one chain are equal, byte for byte, exactly when the sets are, whatever tables of at most 2,046 nodes they were written from.
abbrev pub SheetsAgree : Type 0
SheetsAgree = (chain : ℕ) → chain < 256 → Across (λ g N n M m. length N ≤ 2046 → length M ≤ 2046 → (sheet_text chain N n ≡ sheet_text chain M m) ↔ SameOrders g N n M m)
