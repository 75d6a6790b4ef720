-- The theorems of this crate, as the functions of src/theorems.rt cite them. Assumes nothing.
use Rattle.std.specs.Prelude.{◌≡◌, ℕ, ◌+◌, ◌^◌, ◌<◌, ◌≤◌, ◌⊎◌, ◌↔◌, List, length, ◌≢◌}
use Rattle.orders.specs.declared.order.Order.{Order}
use Rattle.orders.specs.Orders.{place, standing, then}
use Rattle.orders.specs.Chains.{Pair, ChainLaws}
use Rattle.diagrams.specs.declared.Node.{Node}
use Rattle.diagrams.specs.declared.Task.{Task}
use Rattle.diagrams.specs.declared.Task.TheVariants.{Carry}
use Rattle.diagrams.specs.Moves.{Moves}
use Rattle.diagrams.specs.Level.{level}
use Rattle.diagrams.specs.Table.{Exists, Sound, Extends, x_of, y_of, lo_of, hi_of, count_of, In}
use Rattle.diagrams.specs.Rules.{done, Makes}
use Rattle.diagrams.specs.Script.{go, deep}
use Rattle.diagrams.specs.Bodies.{first_of, body}
use Rattle.diagrams.specs.Work.{Valid, Set, Sought, measure, depth, task}
use Rattle.diagrams.specs.Outright.{answered, outright, kind_of, right_of}
use Rattle.diagrams.specs.Counting.{Has, Distinct, orders_of, factorial}

-- The levels of pairs.
pub record LevelsStand : Type 0 where
  -- a greater x is above a smaller
  pub by_x : (x y z w : ℕ) → 1 ≤ y → y < x → w < z → x < z → level x y < level z w
  -- at one x, a smaller y is above
  pub by_y : (x y w : ℕ) → y < x → w < y → level x y < level x w
  -- a level is of one pair
  pub of_one : (x y z w : ℕ) → 1 ≤ y → y < x → 1 ≤ w → w < z → level x y ≡ level z w → (x ≡ z) × (y ≡ w)
  -- they are 1 to 120
  pub within : (x y : ℕ) → Pair x y → (1 ≤ level x y) × (level x y ≤ 120)

-- of every chain that keeps its laws and every sound table
abbrev pub Always : (Moves → List Node → Type 0) → Type 0
Always P = (g : Moves) → ChainLaws g → (N : List Node) → Sound N → P g N

-- What the numbers of a table stand for.
pub record Stands (g : Moves) (N : List Node) : Type 0 where
  -- 0 is the empty set
  pub none : (o : Order) → In g N 0 o → ⊥
  -- 1 is the set of the standing order alone
  pub one : (o : Order) → In g N 1 o ↔ (o ≡ standing)
  -- a node is its low part, and its high part with each order followed by the node's move
  pub node : (n : ℕ) → Exists N n → 2 ≤ n → (o : Order) →
      In g N n o ↔ ((In g N (lo_of N n) o) ⊎ ((α : Order) × (In g N (hi_of N n) α × (o ≡ then α (g (x_of N n) (y_of N n))))))
  -- no order is in both
  pub apart : (n : ℕ) → Exists N n → 2 ≤ n → (α β : Order) → In g N (lo_of N n) α → In g N (hi_of N n) β → α ≢ then β (g (x_of N n) (y_of N n))
  -- every number but 0 has an order
  pub some : (n : ℕ) → Exists N n → 1 ≤ n → (o : Order) × In g N n o
  -- every order of a set leaves the pieces above its x, and sends x to its y or above
  pub leaves : (n : ℕ) → Exists N n → (o : Order) → In g N n o → ((k : ℕ) → x_of N n < k → place o k ≡ k) × (y_of N n ≤ place o (x_of N n))

-- That, of every chain and sound table.
abbrev pub SetsStand : Type 0
SetsStand = Always Stands

-- Two numbers of a sound table that have the same orders are one number.
abbrev pub CanonicityStands : Type 0
CanonicityStands = Always (λ g N. (n m : ℕ) → Exists N n → Exists N m → ((o : Order) → In g N n o ↔ In g N m o) → n ≡ m)

-- A longer table has the same sets under the same numbers.
abbrev pub ExtensionStands : Type 0
ExtensionStands = Always (λ g N. (M : List Node) → Extends N M → (n : ℕ) → Exists N n → (o : Order) → In g M n o ↔ In g N n o)

-- A number's count is how many orders it has: the list of them has that length, and has each once.
pub record Counted (g : Moves) (N : List Node) (n : ℕ) : Type 0 where
  pub long : length (orders_of g N n) ≡ count_of N n
  pub once : Distinct (orders_of g N n)
  pub exact : (o : Order) → Has (orders_of g N n) o ↔ In g N n o

-- That, of every number.
abbrev pub CountsStand : Type 0
CountsStand = Always (λ g N. (n : ℕ) → Exists N n → Counted g N n)

-- A count is at most 16!, so that a sum of two fits in 64 bits.
abbrev pub BoundsStand : Type 0
BoundsStand = (N : List Node) → Sound N → (n m : ℕ) → Exists N n → Exists N m → (count_of N n ≤ factorial 16) × (count_of N n + count_of N m < 2 ^ 64)

-- The rule of work, of every task that a sound table may be asked, with room for any number of nodes.
pub record Works (g : Moves) (cap : ℕ) (N : List Node) (t : Task) : Type 0 where
  -- it finds its set, in a sound longer table; or it found no room, and the table is sound and longer
  pub makes : Makes g cap N (Set g N t) (task g cap N t)
  -- it ends: it is one unfolding of its body, and any depth above its measure is enough, as the fixed one is
  pub unfolds : task g cap N t ≡ go cap (task g cap) N (body g N t) 1
  pub enough : (f : ℕ) → measure N t < f → deep cap (body g) f N t ≡ task g cap N t
  pub shallow : measure N t < depth
  -- what adds nothing adds nothing on a longer table, with the same number and entries
  pub stable : (M : List Node) (r n : ℕ) → Sound M → Extends N M → task g cap N t ≡ done N r n → task g cap M t ≡ done M r n
  -- run again on the table that it made, it adds nothing and answers the same
  pub settled : (M : List Node) (r n : ℕ) → task g cap N t ≡ done M r n → task g cap M t ≡ done M r n
  -- it is outright just where its body is an answer
  pub outright_is : answered (body g N t) ≡ outright t

-- That, of every task.
abbrev pub WorkStands : Type 0
WorkStands = Always (λ g N. (cap : ℕ) (t : Task) → Valid N t → Works g cap N t)

-- Whatever the room, the answer of the task t has just the orders P.
abbrev pub Finds : Moves → List Node → Task → (Order → Type 0) → Type 0
Finds g N t P = (cap : ℕ) (M : List Node) (r n : ℕ) → task g cap N t ≡ done M r n → (o : Order) → In g M r o ↔ P o

-- The answer of every task has just the orders that it is to find.
abbrev pub AnswersStand : Type 0
AnswersStand = Always (λ g N. (t : Task) → Valid N t → Finds g N t (Sought g N t))

-- Single of h, which is 1 carried by h, is {h}.
abbrev pub SingleStands : Type 0
SingleStands = Always (λ g N. (h : Order) → Finds g N (Carry 1 h) (λ o. o ≡ h))

-- Different tasks have different triples: a kind, a first number and a second.
abbrev pub TriplesStand : Type 0
TriplesStand = (N M : List Node) (t u : Task) → Valid N t → Valid M u → kind_of t ≡ kind_of u → first_of t ≡ first_of u → right_of t ≡ right_of u → t ≡ u
