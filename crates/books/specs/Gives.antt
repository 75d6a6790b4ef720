-- What one order leaves in the list and answers, and what becomes of the lent memory. Assumes nothing.
use Rattle.std.specs.Prelude.{◌≡◌, ℕ, List, [], ◌∷◌, ◌++◌, length, drop, Ok, Err, Result}
use Rattle.std.specs.Borrow.{Bor}
use Rattle.lists.specs.declared.filled.Filled.{Filled}
use Rattle.lists.specs.Items.{items_of, room_of}
use Rattle.sheets.specs.declared.fault.Fault.{Fault}
use Rattle.sheets.specs.Reading.{Lent}
use Rattle.books.specs.declared.top.Book.{Book}
use Rattle.books.specs.Reading.{row}

-- one code more and the text that is left, or the fault and no change
abbrev pub Gives : Book → ℕ → List ℕ → List ℕ → List ℕ → Result (Bor (List ℕ)) Fault → Type 0
Gives b room cs text now (Ok rest) = (c : ℕ) × (row b room cs text ≡ Ok (c, rest.now)) × (now ≡ cs ++ (c ∷ []))
Gives b room cs text now (Err f) = (row b room cs text ≡ Err f) × (now ≡ cs)

-- the lent memory is the same, and beyond the list's records it is as it was
pub record Kept (before after : Filled ℕ) : Type 0 where
  pub lent : Lent before after
  pub beyond : drop (length (items_of after)) (room_of after) ≡ drop (length (items_of after)) (room_of before)
