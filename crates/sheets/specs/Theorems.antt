-- What the check of a sheet means. Assumes nothing.
use Rattle.std.specs.Prelude.{◌≡◌, ℕ, ◌<◌, ◌≤◌, List, length, Ok}
use Rattle.lists.specs.declared.node_line.NodeLine.{NodeLine}
use Rattle.diagrams.specs.declared.Node.{Node}
use Rattle.diagrams.specs.Table.{Exists, Sound, x_of, count_of}
use Rattle.forms.specs.Walks.{sheet_of}
use Rattle.sheets.specs.declared.checking.Checked.{Checked}
use Rattle.sheets.specs.Format.{sheet_bytes}
use Rattle.sheets.specs.Checks.{tabled, checked}

-- what is known of a sheet that was accepted, with the lines ls
pub record Accepted (pieces chain : ℕ) (text : List ℕ) (ls : List NodeLine) (c : Checked) : Type 0 where
  -- its lines, with their counts, are a sound table, in which the root is
  pub few : length ls ≤ 2046
  pub sound : Sound (tabled ls)
  pub there : Exists (tabled ls) c.root
  -- the lines are those of the root's set, and orders is its count
  pub sheet : sheet_of (tabled ls) c.root ≡ record { root = c.root; lines = ls }
  pub count : count_of (tabled ls) c.root ≡ c.orders
  -- and the text is that sheet, byte for byte
  pub bytes : text ≡ sheet_bytes chain c.orders ls

-- A sheet that is accepted is the sheet of the set that it gives, byte for byte.
abbrev pub AcceptedStands : Type 0
AcceptedStands = (pieces chain : ℕ) (text : List ℕ) (ls : List NodeLine) (c : Checked) → checked pieces chain text ≡ (ls, Ok c) → Accepted pieces chain text ls c

-- What was written of a set is accepted wherever there are the pieces and the room, with its lines, its root and its count.
abbrev pub WrittenStands : Type 0
WrittenStands = (pieces chain : ℕ) → chain < 256 → (N : List Node) → Sound N → (n : ℕ) → Exists N n → x_of N n ≤ pieces → length (sheet_of N n).lines ≤ 2046 →
    checked pieces chain (sheet_bytes chain (count_of N n) (sheet_of N n).lines) ≡ ((sheet_of N n).lines, Ok record { root = (sheet_of N n).root; orders = count_of N n })
