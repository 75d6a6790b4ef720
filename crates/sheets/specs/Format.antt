-- The bytes of a sheet. Assumes nothing.
use Rattle.std.specs.Prelude.{ℕ, List, [], ◌∷◌, ◌++◌, length, codes}
use Rattle.std.specs.List.{flat_map}
use Rattle.lists.specs.declared.node_line.NodeLine.{NodeLine}
use Rattle.lines.specs.Format.{line}

-- line 1, the names of the first table
abbrev pub head : List ℕ
head = codes "chain nodes orders" ++ 10 ∷ []

-- line 3, the names of the second
abbrev pub node_names : List ℕ
node_names = codes "x y lo hi" ++ 10 ∷ []

-- the values of a node's line
abbrev pub node_values : NodeLine → List ℕ
node_values a = a.x ∷ a.y ∷ a.lo ∷ a.hi ∷ []

-- the lines of nodes
abbrev pub node_lines : List NodeLine → List ℕ
node_lines ls = flat_map (λ a. line (node_values a)) ls

-- the sheet of a chain's set: its chain, how many nodes and orders it has, and its nodes in the order of the visit
unfoldable pub sheet_bytes : ℕ → ℕ → List NodeLine → List ℕ
sheet_bytes chain orders ls = head ++ (line (chain ∷ length ls ∷ orders ∷ []) ++ (node_names ++ node_lines ls))
