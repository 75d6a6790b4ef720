-- The form of a number: its diagram, unfolded. Assumes nothing.
use Prim.{Unit}
use Rattle.std.specs.Prelude.{◌≡◌, ℕ, suc, ◌<◌, ◌≤◌, Bool, false, ◌||◌, ◌⊎◌, List}
use Rattle.diagrams.specs.declared.Node.{Node}
use Rattle.orders.specs.declared.order.Order.{Order}
use Rattle.diagrams.specs.Moves.{Moves, back}
use Rattle.diagrams.specs.Table.{fold, at_one}

-- a diagram with no numbers: the empty set, the standing order alone, or a node with its x, its y and its parts
pub data Form : Type 0 where
  none : Form
  one : Form
  branch : ℕ → ℕ → Form → Form → Form

abbrev pub at_branch : Node → Form → Form → Form
at_branch a lo hi = branch a.x a.y lo hi

-- the form of the number n of a table
unfoldable pub form : List Node → ℕ → Form
form N n = fold none one at_branch (suc n) N n

abbrev pub top_x : Form → ℕ
top_x none = 0
top_x one = 0
top_x (branch x y lo hi) = x

abbrev pub top_y : Form → ℕ
top_y none = 0
top_y one = 0
top_y (branch x y lo hi) = y

-- the form stands for some order
abbrev pub Some : Form → Type 0
Some none = ⊥
Some one = Unit {0}
Some (branch x y lo hi) = Unit {0}

-- x, y, lo and hi may be a node
pub record Fits (x y : ℕ) (lo hi : Form) : Type 0 where
  pub x_max : x ≤ 16
  pub y_min : 1 ≤ y
  pub y_below : y < x
  pub lo_under : (top_x lo < x) ⊎ ((top_x lo ≡ x) × (y < top_y lo))
  pub hi_under : top_x hi < x
  pub hi_some : Some hi

-- every node of the form keeps the rules
abbrev pub Well : Form → Type 0
Well none = Unit {0}
Well one = Unit {0}
Well (branch x y lo hi) = Fits x y lo hi × (Well lo × Well hi)

-- o is in the set of the form
abbrev pub has : Moves → Form → Order → Bool
has g none o = false
has g one o = at_one o
has g (branch x y lo hi) o = has g lo o || has g hi (back g x y o)
