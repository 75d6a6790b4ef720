-- The visit as code makes it, with a mark for each node of the table; and a sheet as code reads it. Assumes nothing.
use Rattle.std.specs.Prelude.{◌≡◌, ℕ, zero, suc, ◌<◌, ◌≤◌, Bool, true, false, List, [], ◌∷◌, ◌++◌, map, length, get_or, replicate, ◌==◌, slice_index, slice_index_or, slice_set}
use Rattle.lists.specs.declared.node_line.NodeLine.{NodeLine}
use Rattle.diagrams.specs.declared.Node.{Node}
use Rattle.diagrams.specs.Table.{at, Exists, x_of, y_of, lo_of, hi_of}
use Rattle.forms.specs.Visits.{blank}
use Rattle.forms.specs.Walks.{given, reached, sheet_of}

-- what a list of numbers gives to the number k: 0 and 1 themselves, and i + 2 what stands at i
abbrev pub taken : List ℕ → ℕ → ℕ
taken rs zero = 0
taken rs (suc zero) = 1
taken rs (suc (suc i)) = slice_index rs i

-- for each node of a table the number that it was given, or 0; and the numbers of those that have one, in the order of the visit
pub record Marks : Type 0 where
  pub marks : List ℕ
  pub order : List ℕ

-- how many nodes have no number
abbrev pub zeros : List ℕ → ℕ
zeros [] = 0
zeros (zero ∷ ms) = suc (zeros ms)
zeros (suc m ∷ ms) = zeros ms

-- no node has a number, in room for so many
abbrev pub unmarked : ℕ → Marks
unmarked size = record { marks = replicate size 0; order = [] }

-- the node at i gets the next number
abbrev pub give : ℕ → Marks → Marks
give i s = record { marks = slice_set s.marks i (suc (suc (length s.order))); order = s.order ++ (suc (suc i) ∷ []) }

-- by the test that the node has no number
abbrev pub mark_by : Bool → Marks → Marks → Marks
mark_by true added s = added
mark_by false added s = s

-- lower branch, upper branch, then the node; 0, 1 and a node with a number are passed by
unfoldable pub mark : ℕ → List Node → ℕ → Marks → Marks
mark zero N n s = s
mark (suc d) N zero s = s
mark (suc d) N (suc zero) s = s
mark (suc d) N (suc (suc i)) s = mark_by (slice_index s.marks i == 0) (give i (mark d N (at N i).hi (mark d N (at N i).lo s))) s

-- the line of the table's number n, whose parts have marks
abbrev pub line_by : List Node → List ℕ → ℕ → NodeLine
line_by N ms n = record { x = x_of N n; y = y_of N n; lo = taken ms (lo_of N n); hi = taken ms (hi_of N n) }

-- the marks are those of the visit from n: a node that it reaches has the number that it gives, any other 0
pub record Marked (N : List Node) (n : ℕ) (s : Marks) : Type 0 where
  pub order_is : s.order ≡ reached N n
  pub numbered : (k : ℕ) → Exists N k → given (reached N n) k < suc (suc (length (reached N n))) → taken s.marks k ≡ given (reached N n) k
  pub left_out : (i : ℕ) → i < length N → suc (suc (length (reached N n))) ≤ given (reached N n) (suc (suc i)) → slice_index s.marks i ≡ 0
  -- so they give the sheet
  pub root_is : taken s.marks n ≡ (sheet_of N n).root
  pub lines_are : map (line_by N s.marks) s.order ≡ (sheet_of N n).lines
  pub few : length s.order ≤ length N

-- the node of the table N under the number n is the line a, whose parts stand under what r gives
pub record Stands (N : List Node) (r : ℕ → ℕ) (n : ℕ) (a : NodeLine) : Type 0 where
  pub node : 2 ≤ n
  pub there : Exists N n
  pub x_is : x_of N n ≡ a.x
  pub y_is : y_of N n ≡ a.y
  pub lo_is : lo_of N n ≡ r a.lo
  pub hi_is : hi_of N n ≡ r a.hi

-- the table N has every line, the line of number k under r k
pub record Placed (N : List Node) (ls : List NodeLine) (r : ℕ → ℕ) : Type 0 where
  pub none_is : r 0 ≡ 0
  pub one_is : r 1 ≡ 1
  pub lo_before : (i : ℕ) → i < length ls → (get_or ls i blank).lo < suc (suc i)
  pub hi_before : (i : ℕ) → i < length ls → (get_or ls i blank).hi < suc (suc i)
  pub stands : (i : ℕ) → i < length ls → Stands N r (r (suc (suc i))) (slice_index_or ls i blank)
