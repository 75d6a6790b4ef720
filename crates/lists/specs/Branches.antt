-- A node's line as a branch. Assumes nothing.
use Rattle.std.specs.Prelude.{◌≡◌, ◌^◌, ◌<◌, Ok, Err, Result}
use Rattle.orders.specs.declared.refusal.Refusal.{Refusal}
use Rattle.orders.specs.declared.refusal.Refusal.TheVariants.{BadNode}
use Rattle.diagrams.specs.declared.Branch.{Branch}
use Rattle.lists.specs.declared.node_line.NodeLine.{NodeLine}

-- each value of the line is small enough for a branch
pub record Small (line : NodeLine) : Type 0 where
  pub x_small : line.x < 2 ^ 8
  pub y_small : line.y < 2 ^ 8
  pub lo_small : line.lo < 2 ^ 32
  pub hi_small : line.hi < 2 ^ 32

-- the branch has the line's own values; refused by 16 just where one of them is too large
abbrev pub Branches : NodeLine → Result Branch Refusal → Type 0
Branches line (Ok b) = b ≡ record { x = line.x; y = line.y; lo = line.lo; hi = line.hi }
Branches line (Err e) = (e ≡ BadNode) × (Small line → ⊥)
