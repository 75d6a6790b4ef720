-- The records of a filled list, and what its calls answer. Assumes nothing.
use Rattle.std.specs.Prelude.{◌≡◌, ℕ, ◌+◌, ◌<◌, ◌≤◌, List, [], ◌∷◌, ◌++◌, length, take, drop, Some, None, Ok, Err, Option, Result, ◌≢◌, slice_set}
use Rattle.std.specs.List.{slice_get}
use Rattle.orders.specs.declared.refusal.Refusal.{Refusal}
use Rattle.orders.specs.declared.refusal.Refusal.TheVariants.{NoRoom}
use Rattle.lists.specs.declared.filled.Filled.{Filled}

module _ {X : Type 0} where
  -- the lent memory
  abbrev pub room_of : Filled X → List X
  room_of f = f.room.now

  -- the records, which are what the list means
  abbrev pub items_of : Filled X → List X
  items_of f = take f.len f.room.now

  -- A record was added: it stands behind the others, and the memory has changed at its place alone.
  pub record Grown (before after : Filled X) (x : X) (place : ℕ) : Type 0 where
    pub free : length (items_of before) < length (room_of before)
    pub last : place ≡ length (items_of before)
    pub items : items_of after ≡ items_of before ++ x ∷ []
    pub room : room_of after ≡ slice_set (room_of before) place x

  -- There was no room, and nothing has changed.
  pub record Declined (before after : Filled X) (why : Refusal) : Type 0 where
    pub number : why ≡ NoRoom
    pub full : length (items_of before) ≡ length (room_of before)
    pub same : after ≡ before

  -- what adding a record answers
  abbrev pub Added : Filled X → Filled X → X → Result ℕ Refusal → Type 0
  Added before after x (Ok place) = Grown before after x place
  Added before after x (Err why) = Declined before after why

  -- the memory with records in place of what stood from `at` on; the rest of it stays
  abbrev pub laid : List X → ℕ → List X → List X
  laid room at xs = take at room ++ (xs ++ drop (at + length xs) room)

  -- Records were added: they stand behind the others, and the memory has changed at their places alone.
  pub record Extended (before after : Filled X) (xs : List X) : Type 0 where
    pub free : length (items_of before) + length xs ≤ length (room_of before)
    pub items : items_of after ≡ items_of before ++ xs
    pub room : room_of after ≡ laid (room_of before) (length (items_of before)) xs

  -- There was not room for all, and nothing has changed.
  pub record Crowded (before after : Filled X) (xs : List X) (why : Refusal) : Type 0 where
    pub number : why ≡ NoRoom
    pub full : length (room_of before) < length (items_of before) + length xs
    pub same : after ≡ before

  -- what adding records answers
  abbrev pub Extends : {U : Type 0} → Filled X → Filled X → List X → Result U Refusal → Type 0
  Extends before after xs (Ok _) = Extended before after xs
  Extends before after xs (Err why) = Crowded before after xs why

  -- what finding a record answers: some place that has it, or none, and then no place has it
  abbrev pub Found : List X → X → Option ℕ → Type 0
  Found xs x None = (place : ℕ) → slice_get xs place ≢ Some x
  Found xs x (Some place) = slice_get xs place ≡ Some x
