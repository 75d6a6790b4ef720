-- What reading a sheet into a store comes to. Assumes nothing.
use Rattle.std.specs.Prelude.{◌≡◌, ℕ, ◌+◌, List, [], ◌∷◌, ◌++◌, length, Some, None, Ok, Err, Option, Result}
use Rattle.orders.specs.declared.refusal.Refusal.{Refusal}
use Rattle.orders.specs.declared.refusal.Refusal.TheVariants.{NoRoom}
use Rattle.lists.specs.declared.node_line.NodeLine.{NodeLine}
use Rattle.diagrams.specs.Rules as rules
use Rattle.diagrams.specs.Rules.{done, full, node}
use Rattle.forms.specs.Marks.{taken}
use Rattle.sheets.specs.declared.fault.Fault.{Fault}
use Rattle.sheets.specs.declared.fault.Part.TheVariants.{Store}
use Rattle.sheets.specs.declared.checking.Checked.{Checked}
use Rattle.sheets.specs.Checks.{Outcome, checked}
use Rattle.store.specs.declared.shapes.Handle.{Handle}
use Rattle.store.specs.Views.{View, room_of, with_nodes}
use Rattle.store.specs.Steps.{node_asked, handle_of}

-- what the store says no to, at a line
abbrev pub in_store : Refusal → ℕ → Fault
in_store e k = record { refusal = e; line = k; part = Store }

-- the store after it, and the numbers of the lines, or the fault
abbrev pub Entry : Type 0
Entry = View × Result (List ℕ) Fault

-- by the question of the node and the rule that finds or makes it
abbrev pub enters_by : View → ℕ → Option Refusal → rules.Outcome → (View → ℕ → Entry) → Entry
enters_by w k (Some e) o go = (w, Err (in_store e k))
enters_by w k None (done N r n) go = go (with_nodes w N) r
enters_by w k None (full N) go = (with_nodes w N, Err (in_store NoRoom k))

-- the nodes of lines, found or added one after the other, where those of the lines before have the numbers rs
unfoldable pub enters : View → List ℕ → List NodeLine → Entry
enters w rs [] = (w, Ok rs)
enters w rs (a ∷ ls) =
    enters_by w (length rs + 4)
    (node_asked w a.x a.y (taken rs a.lo) (taken rs a.hi))
    (node (room_of w) w.nodes a.x a.y (taken rs a.lo) (taken rs a.hi) 0)
    (λ v r. enters v (rs ++ (r ∷ [])) ls)

-- an entry as the code has it: the numbers are in a list
abbrev pub Gave : Entry → View → List ℕ → Result (Unit {0}) Fault → Type 0
Gave p w rs (Ok u) = p ≡ (w, Ok rs)
Gave p w rs (Err f) = p ≡ (w, Err f)

-- the root's handle
abbrev pub rooted : ℕ → Entry → View × Result Handle Fault
rooted root (w, Ok rs) = (w, Ok (handle_of w (taken rs root)))
rooted root (w, Err f) = (w, Err f)

-- the whole sheet is checked, and then entered
abbrev pub reads_by : View → Outcome Checked → View × Result Handle Fault
reads_by w (ls, Ok c) = rooted c.root (enters w [] ls)
reads_by w (ls, Err f) = (w, Err f)

unfoldable pub reads : ℕ → View → List ℕ → View × Result Handle Fault
reads chain w text = reads_by w (checked w.plan.pieces chain text)
