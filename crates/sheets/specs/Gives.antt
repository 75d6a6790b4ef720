-- What a step of the check leaves in the list and answers. Assumes nothing.
use Rattle.std.specs.Prelude.{◌≡◌, ℕ, List, Ok, Err, Result}
use Rattle.std.specs.Borrow.{Bor}
use Rattle.lists.specs.declared.node_line.NodeLine.{NodeLine}
use Rattle.sheets.specs.declared.fault.Fault.{Fault}
use Rattle.sheets.specs.Checks.{Outcome}

-- the lines and the text that is left, or the fault
abbrev pub Gives : Outcome (List ℕ) → List NodeLine → Result (Bor (List ℕ)) Fault → Type 0
Gives o ls (Ok rest) = (ls ≡ o.0) × (o.1 ≡ Ok rest.now)
Gives o ls (Err f) = (ls ≡ o.0) × (o.1 ≡ Err f)
