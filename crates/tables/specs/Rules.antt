-- The rules for nodes, asked of four values. Assumes nothing.
use Rattle.std.specs.Prelude.{ℕ, suc, Bool, ◌&&◌, List, length, nat_le, nat_lt}
use Rattle.diagrams.specs.declared.Node.{Node}
use Rattle.diagrams.specs.Level.{level}
use Rattle.diagrams.specs.Table.{x_of, level_of}

-- 16 ≥ x > y ≥ 1, x within so many pieces, lo and hi numbers of the table, hi not 0, lo of lower level, hi of smaller x
unfoldable pub stands : List Node → ℕ → ℕ → ℕ → ℕ → ℕ → Bool
stands N pieces x y lo hi =
    (nat_le x 16 && (nat_le x pieces && (nat_le 1 y && nat_lt y x)))
    && ((nat_lt lo (suc (suc (length N))) && (nat_lt hi (suc (suc (length N))) && nat_le 1 hi))
    && (nat_lt (level_of N lo) (level x y) && nat_lt (x_of N hi) x))
