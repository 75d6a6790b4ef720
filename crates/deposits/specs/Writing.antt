-- The sheet of a set, and what writing it comes to. Assumes nothing.
use Rattle.std.specs.Prelude.{◌≡◌, ℕ, List, Some, None, Err, Option, Result}
use Rattle.orders.specs.declared.refusal.Refusal.{Refusal}
use Rattle.diagrams.specs.declared.Node.{Node}
use Rattle.diagrams.specs.Table.{count_of}
use Rattle.lines.specs.Pages.{Put}
use Rattle.store.specs.declared.shapes.Handle.{Handle}
use Rattle.store.specs.Views.{View}
use Rattle.store.specs.Questions.{handle_asked}
use Rattle.forms.specs.Walks.{sheet_of}
use Rattle.sheets.specs.Format.{sheet_bytes}

-- the sheet of the number n of a table, for the chain with this code
unfoldable pub sheet_text : ℕ → List Node → ℕ → List ℕ
sheet_text chain N n = sheet_bytes chain (count_of N n) (sheet_of N n).lines

-- questions 4 and 5; then the sheet stands at the page's start, or 13
abbrev pub WritesIf : Option Refusal → List ℕ → List ℕ → List ℕ → Result ℕ Refusal → Type 0
WritesIf (Some e) text before after r = (r ≡ Err e) × (after ≡ before)
WritesIf None text before after r = Put before after 0 text r

unfoldable pub Writes : ℕ → View → Handle → List ℕ → List ℕ → Result ℕ Refusal → Type 0
Writes chain w h before after r = WritesIf (handle_asked w h) (sheet_text chain w.nodes h.number) before after r
