-- What the check of a sheet comes to: every question in its order. Assumes nothing.
use Rattle.std.specs.Prelude.{ℕ, zero, suc, ◌+◌, ◌<◌, ◌≤◌, Bool, true, false, not, ◌&&◌, List, [], ◌∷◌, ◌++◌, length, Ok, Err, Result, ◌==◌, nat_lt, slice_index}
use Rattle.lists.specs.declared.node_line.NodeLine.{NodeLine}
use Rattle.diagrams.specs.declared.Node.{Node}
use Rattle.diagrams.specs.Level.{level}
use Rattle.diagrams.specs.Table.{x_of, level_of, count_of}
use Rattle.diagrams.specs.Rules.{new_node, find}
use Rattle.forms.specs.Marks.{unmarked, mark}
use Rattle.sheets.specs.declared.fault.Fault.{Fault}
use Rattle.sheets.specs.declared.checking.Checked.{Checked}
use Rattle.sheets.specs.Faults.{bad_line, other_chain, bad_node, misnumbered, wrong_count}
use Rattle.sheets.specs.Format.{head, node_names}
use Rattle.sheets.specs.Lines.{ask, after, names, values}

-- what the first table says, and the text after the names of the second
pub record Top : Type 0 where
  pub nodes : ℕ
  pub orders : ℕ
  pub rest : List ℕ

-- by its three values: chain, nodes, orders
abbrev pub top_by : ℕ → List ℕ × List ℕ → Result Top Fault
top_by chain p =
    ask (nat_lt (slice_index p.0 1) 2047) (bad_line 2)
    (ask (slice_index p.0 0 == chain) other_chain
    (after (names node_names 3 p.1) (λ rest. Ok record { nodes = slice_index p.0 1; orders = slice_index p.0 2; rest = rest })))

-- lines 1 to 3: 14 of each, and 15 of line 2
unfoldable pub top : ℕ → List ℕ → Result Top Fault
top chain text = after (names head 1 text) (λ rest. after (values 3 2 rest) (top_by chain))

-- the nodes of lines, one after the other, with their counts of orders
abbrev pub grown : List Node → NodeLine → List Node
grown N a = N ++ (new_node N a.x a.y a.lo a.hi ∷ [])

abbrev pub tabled_on : List Node → List NodeLine → List Node
tabled_on N [] = N
tabled_on N (a ∷ ls) = tabled_on (grown N a) ls

unfoldable pub tabled : List NodeLine → List Node
tabled ls = tabled_on [] ls

-- x and y are a pair of pieces
abbrev pub paired : ℕ → NodeLine → Bool
paired pieces a = nat_lt a.x 17 && (nat_lt a.x (pieces + 1) && (nat_lt 0 a.y && nat_lt a.y a.x))

-- lo and hi are numbers below the line's own, and hi is not 0
abbrev pub earlier : ℕ → NodeLine → Bool
earlier own a = nat_lt a.lo own && (nat_lt 0 a.hi && nat_lt a.hi own)

-- so much is known when the parts are looked up
pub record Askable (N : List Node) (a : NodeLine) : Type 0 where
  pub x_max : a.x ≤ 16
  pub y_min : 1 ≤ a.y
  pub y_below : a.y < a.x
  pub lo_there : a.lo < length N + 2
  pub hi_there : a.hi < length N + 2
  pub few : length N ≤ 2046

-- lo is of lower level and hi has a smaller x, and no earlier line is the same
abbrev pub placed : List Node → NodeLine → Bool
placed N a =
    nat_lt (level_of N a.lo) (level a.x a.y) && (nat_lt (x_of N a.hi) a.x && not (nat_lt (find N a.x a.y a.lo a.hi) (length N)))

-- the line keeps the rules for nodes, after those of N
unfoldable pub keeps : ℕ → List Node → NodeLine → Bool
keeps pieces N a = paired pieces a && (earlier (length N + 2) a && placed N a)

-- four values as a line
abbrev pub line_from : List ℕ → NodeLine
line_from ns = record { x = slice_index ns 0; y = slice_index ns 1; lo = slice_index ns 2; hi = slice_index ns 3 }

-- one node line after those of ls: 14, then 16
abbrev pub row_by : ℕ → List NodeLine → List ℕ × List ℕ → Result (NodeLine × List ℕ) Fault
row_by pieces ls p = ask (keeps pieces (tabled ls) (line_from p.0)) (bad_node (length ls + 4)) (Ok (line_from p.0, p.1))

unfoldable pub row : ℕ → List NodeLine → List ℕ → Result (NodeLine × List ℕ) Fault
row pieces ls text = after (values 4 (length ls + 4) text) (row_by pieces ls)

-- what is in the list, and what is answered
abbrev pub Outcome : Type 0 → Type 0
Outcome A = List NodeLine × Result A Fault

abbrev pub rows_by : List NodeLine → Result (NodeLine × List ℕ) Fault → (NodeLine → List ℕ → Outcome (List ℕ)) → Outcome (List ℕ)
rows_by ls (Err f) go = (ls, Err f)
rows_by ls (Ok p) go = go p.0 p.1

-- so many node lines after those of ls, and what follows them
unfoldable pub rows : ℕ → ℕ → List NodeLine → List ℕ → Outcome (List ℕ)
rows zero pieces ls text = (ls, Ok text)
rows (suc k) pieces ls text = rows_by ls (row pieces ls text) (λ a rest. rows k pieces (ls ++ (a ∷ [])) rest)

-- the marks that the visit from the last node leaves
unfoldable pub marks_of : List Node → List ℕ
marks_of N = (mark (suc (suc (length N))) N (suc (length N)) (unmarked 2046)).marks

-- the first of k places from i on whose mark is not its own number, or the place after them
abbrev pub off_by : Bool → ℕ → ℕ → ℕ
off_by true i later = later
off_by false i later = i

unfoldable pub off : ℕ → ℕ → List ℕ → ℕ
off zero i ms = i
off (suc k) i ms = off_by (slice_index ms i == suc (suc i)) i (off k (suc i) ms)

-- the root's number: the last node, or what orders says where there are no nodes
abbrev pub root_of : List Node → ℕ → ℕ
root_of [] orders = orders
root_of (a ∷ N) orders = suc (suc (length N))

-- orders is the root's count; with no nodes 0 or 1
abbrev pub counts : List Node → ℕ → Bool
counts [] orders = nat_lt orders 2
counts (a ∷ N) orders = count_of (a ∷ N) (suc (suc (length N))) == orders

-- nothing follows
abbrev pub ends : List ℕ → Bool
ends [] = true
ends (c ∷ cs) = false

-- after the last node line: a surplus line, then 17, then 18
unfoldable pub finish : List Node → ℕ → List ℕ → Result Checked Fault
finish N orders rest =
    ask (ends rest) (bad_line (length N + 4))
    (ask (not (nat_lt (off (length N) 0 (marks_of N)) (length N))) (misnumbered (off (length N) 0 (marks_of N) + 4))
    (ask (counts N orders) wrong_count (Ok record { root = root_of N orders; orders = orders })))

abbrev pub checked_rows : ℕ → Outcome (List ℕ) → Outcome Checked
checked_rows orders p = (p.0, after p.1 (λ rest. finish (tabled p.0) orders rest))

abbrev pub checked_top : ℕ → Result Top Fault → Outcome Checked
checked_top pieces (Err f) = ([], Err f)
checked_top pieces (Ok t) = checked_rows t.orders (rows t.nodes pieces [] t.rest)

-- the whole check of a sheet
unfoldable pub checked : ℕ → ℕ → List ℕ → Outcome Checked
checked pieces chain text = checked_top pieces (top chain text)
