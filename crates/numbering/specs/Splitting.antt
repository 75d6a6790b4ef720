-- A set as its move and its two parts. Assumes nothing.
use Rattle.std.specs.Prelude.{◌≡◌}
use Rattle.diagrams.specs.Table.{x_of, y_of, lo_of, hi_of}
use Rattle.tables.specs.Rows.{rows}
use Rattle.numbering.specs.declared.set.Set.{Set}
use Rattle.numbering.specs.declared.set.Split.{Split}

-- b is the move and the parts of the set s, whose number is a node's
pub record Splits (s : Set) (b : Split) : Type 0 where
  pub x : b.x ≡ x_of (rows s.table.now) s.number
  pub y : b.y ≡ y_of (rows s.table.now) s.number
  pub low : b.low.number ≡ lo_of (rows s.table.now) s.number
  pub low_table : b.low.table ≡ s.table
  pub high : b.high.number ≡ hi_of (rows s.table.now) s.number
  pub high_table : b.high.table ≡ s.table
