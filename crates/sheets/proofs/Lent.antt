-- Nodes that keep the rules. Assumes nothing.
use Rattle.std.proofs.Common.{◌-◌, ◌≤◌, ℕ, arith}
use Rattle.diagrams.specs.Table.{Exists, Sound, NodeOk, at}
use Rattle.diagrams.proofs.Props.{sound_out}
use Rattle.sheets.specs.declared.nodes.Nodes.{Nodes}

pub sound_in : (n : Nodes) → Sound n.rows.now
sound_in n = sound_out n.rows.now n.sound

-- the node of a number keeps the rules
pub node_ok : (N : Nodes) (n : ℕ) → 2 ≤ n → Exists N.rows.now n → NodeOk N.rows.now (n - 2) (at N.rows.now (n - 2))
node_ok N n h e = (sound_in N).ok (n - 2) (omega arith)
