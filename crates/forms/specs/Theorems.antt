-- The theorems of this crate, as the functions of src/ cite them. Assumes nothing.
use Rattle.std.specs.Prelude.{◌≡◌, ℕ, suc, ◌<◌, ◌≤◌, ◌↔◌, List, [], ◌∷◌, ◌++◌, map, length, slice_index}
use Rattle.orders.specs.declared.order.Order.{Order}
use Rattle.orders.specs.Chains.{ChainLaws}
use Rattle.diagrams.specs.declared.Node.{Node}
use Rattle.diagrams.specs.Table.{at, Exists, Sound, Extends, In, x_of, count_of}
use Rattle.diagrams.specs.Moves.{Moves}
use Rattle.forms.specs.Forms.{Form, form}
use Rattle.lists.specs.declared.node_line.NodeLine.{NodeLine}
use Rattle.forms.specs.Visits.{visit, Sheet, sheet, read}
use Rattle.forms.specs.Walks.{reached, sheet_of, table_of, as_line}
use Rattle.forms.specs.Facts.{Visit, Reached}
use Rattle.forms.specs.Marks.{unmarked, mark, Marked, Stands, Placed, taken}

-- n of the table N and m of the table M stand for the same orders
abbrev pub SameOrders : Moves → List Node → ℕ → List Node → ℕ → Type 0
SameOrders g N n M m = (o : Order) → In g N n o ↔ In g M m o

-- of every chain that keeps its laws, and any number of each of two sound tables, or of one
abbrev pub Across : (Moves → List Node → ℕ → List Node → ℕ → Type 0) → Type 0
Across P = (g : Moves) → ChainLaws g → (N M : List Node) → Sound N → Sound M → (n m : ℕ) → Exists N n → Exists M m → P g N n M m

-- One set, one form: two numbers have the same form exactly when they stand for the same orders.
abbrev pub FormStands : Type 0
FormStands = Across (λ g N n M m. (form N n ≡ form M m) ↔ SameOrders g N n M m)

-- One set, one sheet: two numbers have the same root and lines exactly when they stand for the same orders.
abbrev pub SheetStands : Type 0
SheetStands = Across (λ g N n M m. (sheet_of N n ≡ sheet_of M m) ↔ SameOrders g N n M m)

-- the sheet of a number of a table
pub record SheetOf (N : List Node) (n : ℕ) : Type 0 where
  -- it is the sheet of the number's form
  pub of_form : sheet_of N n ≡ sheet (form N n)
  -- read back, it is that form
  pub back : read (sheet_of N n) ≡ form N n
  -- in a longer table it is the same
  pub more : (M : List Node) → Sound M → Extends N M → sheet_of M n ≡ sheet_of N n
  -- what it is made of
  pub order : Reached N n (reached N n)

abbrev pub SheetFormStands : Type 0
SheetFormStands = (N : List Node) → Sound N → (n : ℕ) → Exists N n → SheetOf N n

-- what the visit of a form keeps to
abbrev pub VisitStands : Type 0
VisitStands = (f : Form) → Visit f (visit f [])

-- Marks made node by node, in room that suffices and at any depth that does, are the numbers of the visit, and give the sheet.
abbrev pub MarksStand : Type 0
MarksStand = (N : List Node) → Sound N → (n : ℕ) → Exists N n → (size : ℕ) → length N ≤ size → (d : ℕ) → n < d → Marked N n (mark d N n (unmarked size))

-- a table that has the lines of a sheet has its form under the root's number; so it has the sheet's own set there, and gives the sheet again
abbrev pub ReadStands : Type 0
ReadStands = (M : List Node) → Sound M → (s : Sheet) (r : ℕ → ℕ) → Placed M s.lines r → s.root < suc (suc (length s.lines)) →
    (form M (r s.root) ≡ read s) × ((f : Form) → s ≡ sheet f → sheet_of M (r s.root) ≡ s)

-- the nodes of a sheet, with their counts of orders, are a sound table
pub record TableOf (N : List Node) (n : ℕ) : Type 0 where
  pub sound : Sound (table_of N n)
  pub lines : map as_line (table_of N n) ≡ (sheet_of N n).lines
  pub there : Exists (table_of N n) (sheet_of N n).root
  pub root : form (table_of N n) (sheet_of N n).root ≡ form N n
  -- the root has its count there, and no node a larger x
  pub count : count_of (table_of N n) (sheet_of N n).root ≡ count_of N n
  pub x_most : (i : ℕ) → i < length (table_of N n) → (at (table_of N n) i).x ≤ x_of N n
  pub again : sheet_of (table_of N n) (sheet_of N n).root ≡ sheet_of N n

abbrev pub TableStands : Type 0
TableStands = (N : List Node) → Sound N → (n : ℕ) → Exists N n → TableOf N n

-- each node has its own number as its mark
abbrev pub Own : List Node → List ℕ → Type 0
Own N ms = (i : ℕ) → i < length N → slice_index ms i ≡ suc (suc i)

-- The visit from the last node gives each its own number exactly when the nodes, as they stand, are the lines of that node's sheet.
abbrev pub OwnStands : Type 0
OwnStands = (N : List Node) → Sound N → 1 ≤ length N → (size : ℕ) → length N ≤ size → (d : ℕ) → suc (length N) < d →
    Own N (mark d N (suc (length N)) (unmarked size)).marks ↔ (sheet_of N (suc (length N)) ≡ record { root = suc (length N); lines = map as_line N })

-- a table of four nodes, of which the second is not reached from the last
abbrev pub four : List Node
four = record { x = 2; y = 1; lo = 1; hi = 1; orders = 2 }
    ∷ record { x = 4; y = 1; lo = 0; hi = 1; orders = 1 }
    ∷ record { x = 3; y = 2; lo = 2; hi = 2; orders = 4 }
    ∷ record { x = 3; y = 1; lo = 4; hi = 2; orders = 6 }
    ∷ []

-- its sheet passes the second by, and has the node that two others share once
abbrev pub ExampleStands : Type 0
ExampleStands = sheet_of four 5 ≡ record {
  root = 4;
  lines = record { x = 2; y = 1; lo = 1; hi = 1 } ∷ record { x = 3; y = 2; lo = 2; hi = 2 } ∷ record { x = 3; y = 1; lo = 3; hi = 2 } ∷ [];
}

-- a sheet is read line by line: at first no line has a place, and then one more, found or made in a longer table
pub record PlacingStands : Type 0 where
  pub start : (N : List Node) → Placed N [] (taken [])
  pub step : (N M : List Node) → Extends N M → (ls : List NodeLine) (rs : List ℕ) → length rs ≡ length ls → Placed N ls (taken rs) →
      (a : NodeLine) (m : ℕ) → a.lo < suc (suc (length ls)) → a.hi < suc (suc (length ls)) → Stands M (taken rs) m a →
      Placed M (ls ++ (a ∷ [])) (taken (rs ++ (m ∷ [])))
