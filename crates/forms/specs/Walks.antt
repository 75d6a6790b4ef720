-- The same visit over the numbers of a table. Assumes nothing.
use Rattle.std.specs.Prelude.{ℕ, zero, suc, List, [], map, length, nat_eq, nat_lt}
use Rattle.diagrams.specs.declared.Node.{Node}
use Rattle.diagrams.specs.Rules.{first}
use Rattle.diagrams.specs.Table.{at, x_of, y_of, lo_of, hi_of, count_of}
use Rattle.lists.specs.declared.node_line.NodeLine.{NodeLine}
use Rattle.forms.specs.Visits.{add_by, Sheet}

-- the first place of a number in a list, or the list's length
abbrev pub place_in : List ℕ → ℕ → ℕ
place_in L n = first (nat_eq n) L

-- the number that the visit L gives to the table's number n
abbrev pub given : List ℕ → ℕ → ℕ
given L zero = 0
given L (suc zero) = 1
given L (suc (suc i)) = suc (suc (place_in L (suc (suc i))))

-- the numbers seen, and then those of nodes reached from n that were not, at most d nodes deep
unfoldable pub walk : ℕ → List Node → ℕ → List ℕ → List ℕ
walk zero N n seen = seen
walk (suc d) N zero seen = seen
walk (suc d) N (suc zero) seen = seen
walk (suc d) N (suc (suc i)) seen =
    add_by (nat_lt (place_in seen (suc (suc i))) (length seen)) seen (walk d N (at N i).hi (walk d N (at N i).lo seen)) (suc (suc i))

-- the numbers of the nodes reached from n, in the order of the visit
unfoldable pub reached : List Node → ℕ → List ℕ
reached N n = walk (suc n) N n []

abbrev pub line_of : List Node → List ℕ → ℕ → NodeLine
line_of N L n = record { x = x_of N n; y = y_of N n; lo = given L (lo_of N n); hi = given L (hi_of N n) }

-- the sheet of the number n
unfoldable pub sheet_of : List Node → ℕ → Sheet
sheet_of N n = record { root = given (reached N n) n; lines = map (line_of N (reached N n)) (reached N n) }

abbrev pub node_of : List Node → List ℕ → ℕ → Node
node_of N L n = record { x = x_of N n; y = y_of N n; lo = given L (lo_of N n); hi = given L (hi_of N n); orders = count_of N n }

-- the nodes reached from n, under the numbers that the visit gives
unfoldable pub table_of : List Node → ℕ → List Node
table_of N n = map (node_of N (reached N n)) (reached N n)

abbrev pub as_line : Node → NodeLine
as_line a = record { x = a.x; y = a.y; lo = a.lo; hi = a.hi }
