-- The rule `node`, which finds or makes a node, and what it has to mean. Assumes nothing.
use Rattle.std.specs.Prelude.{◌≡◌, ℕ, suc, ◌+◌, ◌<◌, ◌≤◌, Bool, true, false, ◌&&◌, ◌||◌, List, [], ◌∷◌, ◌++◌, length, ◌==◌, nat_lt}
use Rattle.diagrams.specs.declared.Node.{Node}
use Rattle.orders.specs.declared.order.Order.{Order}
use Rattle.diagrams.specs.Moves.{Moves, back}
use Rattle.diagrams.specs.Level.{level}
use Rattle.diagrams.specs.Table.{Exists, Extends, Sound, x_of, level_of, count_of, mem}

-- What a piece of work comes to: the table after it, its number and the entries so far; or no room, and the table at that point.
pub data Outcome : Type 0 where
  done : List Node → ℕ → ℕ → Outcome
  full : List Node → Outcome

-- and then: what comes after, where there was room
abbrev pub after : Outcome → (List Node → ℕ → ℕ → Outcome) → Outcome
after (done N r n) f = f N r n
after (full N) f = full N

-- whether a node has these four values
abbrev pub is_node : ℕ → ℕ → ℕ → ℕ → Node → Bool
is_node x y lo hi a = a.x == x && (a.y == y && (a.lo == lo && a.hi == hi))

-- by whether the first element passes
abbrev pub first_by : Bool → ℕ → ℕ
first_by true k = 0
first_by false k = suc k

-- the place of the first element that passes, or the list's length
unfoldable pub first : {A : Type 0} → (A → Bool) → List A → ℕ
first p [] = 0
first p (a ∷ l) = first_by (p a) (first p l)

-- the place of the first node with these four values, or the table's length
abbrev pub find : List Node → ℕ → ℕ → ℕ → ℕ → ℕ
find N x y lo hi = first (is_node x y lo hi) N

-- the node with these four values, and the sum of its parts' counts
abbrev pub new_node : List Node → ℕ → ℕ → ℕ → ℕ → Node
new_node N x y lo hi = record { x = x; y = y; lo = lo; hi = hi; orders = count_of N lo + count_of N hi }

-- by the tests: hi is 0; the node is there; there is room
abbrev pub node_by : List Node → ℕ → ℕ → ℕ → ℕ → ℕ → Bool → Bool → Bool → Outcome
node_by N x y lo hi n true there room = done N lo n
node_by N x y lo hi n false true room = done N (suc (suc (find N x y lo hi))) n
node_by N x y lo hi n false false true = done (N ++ (new_node N x y lo hi ∷ [])) (suc (suc (length N))) n
node_by N x y lo hi n false false false = full N

-- the node with these four values, found or made, after n entries
unfoldable pub node : ℕ → List Node → ℕ → ℕ → ℕ → ℕ → ℕ → Outcome
node cap N x y lo hi n = node_by N x y lo hi n (hi == 0) (nat_lt (find N x y lo hi) (length N)) (nat_lt (length N) cap)

-- the table M was made from N, and is full
pub record Full (cap : ℕ) (N M : List Node) : Type 0 where
  pub sound : Sound M
  pub extends : Extends N M
  pub full : cap ≤ length M

-- what `node` asks of the table and its arguments
pub record Asks (N : List Node) (x y lo hi : ℕ) : Type 0 where
  pub x_max : x ≤ 16
  pub y_min : 1 ≤ y
  pub y_below : y < x
  pub lo_there : Exists N lo
  pub hi_there : Exists N hi
  pub lo_level : level_of N lo < level x y
  pub hi_x : x_of N hi < x

module _ (g : Moves) where
  -- the set that `node` makes
  abbrev pub NodeSet : List Node → ℕ → ℕ → ℕ → ℕ → Order → Bool
  NodeSet N x y lo hi o = mem g N lo o || mem g N hi (back g x y o)

  -- M is N and perhaps more, and r is the number there of the set P
  pub record Made (N : List Node) (P : Order → Bool) (M : List Node) (r : ℕ) : Type 0 where
    pub sound : Sound M
    pub extends : Extends N M
    pub there : Exists M r
    pub means : (o : Order) → mem g M r o ≡ P o

  -- it made the set P, or found no room
  abbrev pub Makes : ℕ → List Node → (Order → Bool) → Outcome → Type 0
  Makes cap N P (done M r n) = Made N P M r
  Makes cap N P (full M) = Full cap N M
