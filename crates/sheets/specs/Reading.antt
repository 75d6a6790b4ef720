-- Reading node lines: a line's values as those of a node, and what a step leaves as it was. Assumes nothing.
use Rattle.std.specs.Prelude.{◌≡◌, length}
use Rattle.lists.specs.declared.filled.Filled.{Filled}
use Rattle.lists.specs.declared.node_line.NodeLine.{NodeLine}
use Rattle.lists.specs.Items.{room_of}
use Rattle.diagrams.specs.declared.Branch.{Branch}
use Rattle.sheets.specs.declared.reader.Reader.{Reader}

-- the line that says these values
abbrev pub branch_line : Branch → NodeLine
branch_line b = record { x = b.x; y = b.y; lo = b.lo; hi = b.hi }

-- the lent memory is the same, and as long as it was
pub record Lent {A : Type 0} (before after : Filled A) : Type 0 where
  pub lender : after.room.ghost_name ≡ before.room.ghost_name
  pub long : length (room_of after) ≡ length (room_of before)

-- the pieces are the same, and the list is the caller's still, in the memory that it had
pub record Stays (before after : Reader) : Type 0 where
  pub pieces : after.pieces ≡ before.pieces
  pub lender : after.lines.ghost_name ≡ before.lines.ghost_name
  pub list : Lent before.lines.now after.lines.now
