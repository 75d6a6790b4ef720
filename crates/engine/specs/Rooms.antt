-- The sizes of a table. Assumes nothing.
use Rattle.std.specs.Prelude.{◌≡◌, ℕ, ◌<◌, Some, None, Option}
use Rattle.engine.specs.declared.room.Room.{Room}

-- a room for n nodes, or none where n is more than a table can have
abbrev pub Sized : ℕ → Option Room → Type 0
Sized n (Some room) = room.nodes ≡ n
Sized n None = 2046 < n
