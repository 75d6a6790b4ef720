-- The visit of a form, and its sheet: lower branch, upper branch, then the node itself, each once, numbered from 2. Assumes nothing.
use Rattle.std.specs.Prelude.{ℕ, zero, suc, Bool, true, false, ◌&&◌, List, [], ◌∷◌, ◌++◌, map, length, get_or, ◌==◌, nat_lt, slice_index_or}
use Rattle.lists.specs.declared.node_line.NodeLine.{NodeLine}
use Rattle.diagrams.specs.Rules.{first}
use Rattle.forms.specs.Forms.{Form, none, one, branch}

-- two forms are one
abbrev pub same : Form → Form → Bool
same none none = true
same none one = false
same none (branch u v b d) = false
same one none = false
same one one = true
same one (branch u v b d) = false
same (branch x y a c) none = false
same (branch x y a c) one = false
same (branch x y a c) (branch u v b d) = x == u && (y == v && (same a b && same c d))

-- the first place of a form in a list, or the list's length
abbrev pub place : List Form → Form → ℕ
place L f = first (same f) L

-- the number of a form: 0 and 1 for the ends, and for a node two more than its place
abbrev pub number : List Form → Form → ℕ
number L none = 0
number L one = 1
number L (branch x y lo hi) = suc (suc (place L (branch x y lo hi)))

-- the form of a number
abbrev pub pick : List Form → ℕ → Form
pick L zero = none
pick L (suc zero) = one
pick L (suc (suc i)) = slice_index_or L i none

-- what is there already is passed by; else its parts are visited, and it is added
abbrev pub add_by : {A : Type 0} → Bool → List A → List A → A → List A
add_by true seen parts a = seen
add_by false seen parts a = parts ++ (a ∷ [])

-- the nodes seen, and then those of the form that were not
unfoldable pub visit : Form → List Form → List Form
visit none seen = seen
visit one seen = seen
visit (branch x y lo hi) seen =
    add_by (nat_lt (place seen (branch x y lo hi)) (length seen)) seen (visit hi (visit lo seen)) (branch x y lo hi)

-- what stands where no line is
abbrev pub blank : NodeLine
blank = record { x = 0; y = 0; lo = 0; hi = 0 }

-- the line of a node: its x and y, and the numbers of its parts
abbrev pub line : List Form → Form → NodeLine
line L none = blank
line L one = blank
line L (branch x y lo hi) = record { x = x; y = y; lo = number L lo; hi = number L hi }

-- the root's number, and the nodes from number 2 on
pub record Sheet : Type 0 where
  pub root : ℕ
  pub lines : List NodeLine

abbrev pub sheet_by : Form → List Form → Sheet
sheet_by f L = record { root = number L f; lines = map (line L) L }

unfoldable pub sheet : Form → Sheet
sheet f = sheet_by f (visit f [])

-- the form of the number n among lines, at most d nodes deep
unfoldable pub decode : ℕ → List NodeLine → ℕ → Form
decode zero ls n = none
decode (suc d) ls zero = none
decode (suc d) ls (suc zero) = one
decode (suc d) ls (suc (suc i)) =
    branch (get_or ls i blank).x (get_or ls i blank).y (decode d ls (get_or ls i blank).lo) (decode d ls (get_or ls i blank).hi)

-- the form that a sheet is of
unfoldable pub read : Sheet → Form
read s = decode (suc s.root) s.lines s.root
