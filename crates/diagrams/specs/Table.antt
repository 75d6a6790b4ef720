-- Tables of nodes: the set that a number stands for, and what a sound table is. Assumes nothing.
use Rattle.std.specs.Prelude.{◌≡◌, ℕ, zero, suc, ◌+◌, ◌<◌, ◌≤◌, Bool, true, false, ◌||◌, List, length, slice_index_or}
use Rattle.diagrams.specs.declared.Node.{Node}
use Rattle.orders.specs.declared.order.Order.{Order}
use Rattle.orders.specs.Orders.{standing}
use Rattle.diagrams.specs.Moves.{Moves, same, back}
use Rattle.diagrams.specs.Level.{level}

-- what stands where no node is
abbrev pub blank : Node
blank = record { x = 0; y = 0; lo = 0; hi = 0; orders = 0 }

-- the node at i
abbrev pub at : List Node → ℕ → Node
at N i = slice_index_or N i blank

-- n is a number of the table N: 0, 1, or i + 2 for the node at i
abbrev pub Exists : List Node → ℕ → Type 0
Exists N n = n < suc (suc (length N))

-- what the node of a number says; 0 and 1 have none, and all of theirs is 0, but that 1 has one order
unfoldable pub x_of : List Node → ℕ → ℕ
x_of N zero = 0
x_of N (suc zero) = 0
x_of N (suc (suc i)) = (at N i).x

unfoldable pub y_of : List Node → ℕ → ℕ
y_of N zero = 0
y_of N (suc zero) = 0
y_of N (suc (suc i)) = (at N i).y

unfoldable pub lo_of : List Node → ℕ → ℕ
lo_of N zero = 0
lo_of N (suc zero) = 0
lo_of N (suc (suc i)) = (at N i).lo

unfoldable pub hi_of : List Node → ℕ → ℕ
hi_of N zero = 0
hi_of N (suc zero) = 0
hi_of N (suc (suc i)) = (at N i).hi

unfoldable pub level_of : List Node → ℕ → ℕ
level_of N zero = 0
level_of N (suc zero) = 0
level_of N (suc (suc i)) = level (at N i).x (at N i).y

unfoldable pub count_of : List Node → ℕ → ℕ
count_of N zero = 0
count_of N (suc zero) = 1
count_of N (suc (suc i)) = (at N i).orders

-- What a number comes to, from the values of 0 and 1 and of a node by those of its parts, at most f nodes deep
unfoldable pub fold : {A : Type 0} → A → A → (Node → A → A → A) → ℕ → List Node → ℕ → A
fold z u s zero N n = z
fold z u s (suc f) N zero = z
fold z u s (suc f) N (suc zero) = u
fold z u s (suc f) N (suc (suc i)) = s (at N i) (fold z u s f N (at N i).lo) (fold z u s f N (at N i).hi)

-- The node a may stand at i in the table N: x and y are a pair, the low part is of lower level, the high part has a smaller x and is not empty,
-- both were there before, and the count is the sum of theirs.
pub record NodeOk (N : List Node) (i : ℕ) (a : Node) : Type 0 where
  pub x_max : a.x ≤ 16
  pub y_min : 1 ≤ a.y
  pub y_below : a.y < a.x
  pub lo_level : level_of N a.lo < level a.x a.y
  pub hi_x : x_of N a.hi < a.x
  pub hi_some : 1 ≤ a.hi
  pub lo_below : a.lo < suc (suc i)
  pub hi_below : a.hi < suc (suc i)
  pub counted : a.orders ≡ count_of N a.lo + count_of N a.hi

-- two nodes have all four values equal
pub record Same (a b : Node) : Type 0 where
  pub same_x : a.x ≡ b.x
  pub same_y : a.y ≡ b.y
  pub same_lo : a.lo ≡ b.lo
  pub same_hi : a.hi ≡ b.hi

-- every node may stand where it does, and no two are the same
pub record Sound (N : List Node) : Type 0 where
  pub ok : (i : ℕ) → i < length N → NodeOk N i (at N i)
  pub apart : (i j : ℕ) → i < length N → j < length N → Same (at N i) (at N j) → i ≡ j

-- M has the nodes of N at their places, and perhaps more
pub record Extends (N M : List Node) : Type 0 where
  pub longer : length N ≤ length M
  pub kept : (i : ℕ) → i < length N → at M i ≡ at N i

-- the set of the number 1: the standing order alone
abbrev pub at_one : Order → Bool
at_one o = same o standing

module _ (g : Moves) where
  -- the set of a node: its low part, and its high part with each order followed by the node's move
  abbrev pub at_node : Node → (Order → Bool) → (Order → Bool) → Order → Bool
  at_node nd low high o = low o || high (back g nd.x nd.y o)

  -- whether o is in the set of the number n
  unfoldable pub mem : List Node → ℕ → Order → Bool
  mem N n = fold (λ o. false) at_one at_node (suc n) N n

  -- o is in the set of the number n
  abbrev pub In : List Node → ℕ → Order → Type 0
  In N n o = mem N n o ≡ true
