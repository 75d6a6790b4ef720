use Rattle.std.proofs.Common.{◌≡◌, take}
use Rattle.lists.specs.Items.{Extended}
use Rattle.sheets.specs.Format.{node_lines}
use Rattle.sheets.proofs.writing.put_rows.Given as goal

abbrev pub invariant-loop-line : goal.invariant-loop-line
invariant-loop-line l = Extended l.fn.page l.page (node_lines (take l.line-index l.lines)) × (l.page.room.ghost_name ≡ l.fn.page.room.ghost_name)
