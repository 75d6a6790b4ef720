-- What comes of four values that are to be a node's. Assumes nothing.
use Rattle.std.specs.Prelude.{◌≡◌, true, false}
use Rattle.orders.specs.declared.refusal.Refusal.{Refusal}
use Rattle.orders.specs.declared.refusal.Refusal.TheVariants.{BadNode}
use Rattle.diagrams.specs.declared.Branch.{Branch}
use Rattle.lists.specs.declared.node_line.NodeLine.{NodeLine}
use Rattle.store.specs.Views.{View}
use Rattle.store.specs.Steps.{keeps_rules}

-- they keep the rules, and this is their branch
pub record Stands (w : View) (line : NodeLine) (b : Branch) : Type 0 where
  pub keeps : keeps_rules w line.x line.y line.lo line.hi ≡ true
  pub is : b ≡ record { x = line.x; y = line.y; lo = line.lo; hi = line.hi }

-- they don't
pub record Falls (w : View) (line : NodeLine) (e : Refusal) : Type 0 where
  pub breaks : keeps_rules w line.x line.y line.lo line.hi ≡ false
  pub is : e ≡ BadNode
