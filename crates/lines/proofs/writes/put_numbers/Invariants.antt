use Rattle.std.proofs.Common.{◌≡◌, take}
use Rattle.lists.specs.Items.{Extended}
use Rattle.lines.specs.Format.{written}
use Rattle.lines.proofs.writes.put_numbers.Given as goal

abbrev pub invariant-loop-i : goal.invariant-loop-i
invariant-loop-i l = Extended l.fn.page l.page (written (take l.i l.values)) × (l.page.room.ghost_name ≡ l.fn.page.room.ghost_name)
