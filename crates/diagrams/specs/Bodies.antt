-- The rule of each kind of work. Assumes nothing.
use Rattle.std.specs.Prelude.{ℕ, Bool, true, false, ◌||◌, List, ◌==◌, nat_lt}
use Rattle.orders.specs.declared.order.Order.{Order}
use Rattle.diagrams.specs.declared.Node.{Node}
use Rattle.diagrams.specs.declared.Task.{Task}
use Rattle.diagrams.specs.declared.Task.TheVariants.{Join, Meet, Without, Carry, Follow, Pick}
use Rattle.std.specs.declared.cmp.Ordering.{Ordering}
use Rattle.std.specs.declared.cmp.Ordering.TheVariants.{Less, Equal, Greater}
use Rattle.std.specs.Ordering.{nat_cmp}
use Rattle.orders.specs.Orders.{place, standing, then, inverse}
use Rattle.orders.specs.Dimension.{dimension}
use Rattle.diagrams.specs.Moves.{Moves, same, back}
use Rattle.diagrams.specs.Table.{x_of, y_of, lo_of, hi_of, level_of, count_of}
use Rattle.diagrams.specs.Script.{Script, answer, make, enter}

-- the first number that a task is on
abbrev pub first_of : Task → ℕ
first_of (Join a b) = a
first_of (Meet a b) = a
first_of (Without a b) = a
first_of (Carry a h) = a
first_of (Follow a b) = a
first_of (Pick a k p) = a

-- the second, or 0 where there is one only
abbrev pub second_of : Task → ℕ
second_of (Join a b) = b
second_of (Meet a b) = b
second_of (Without a b) = b
second_of (Carry a h) = 0
second_of (Follow a b) = b
second_of (Pick a k p) = 0

-- the node of a number; 0 and 1 have one too
abbrev pub row : List Node → ℕ → Node
row N n = record { x = x_of N n; y = y_of N n; lo = lo_of N n; hi = hi_of N n; orders = count_of N n }

-- The shapes that rules are made of.
-- two tasks, from left to right, and then the node of their answers
abbrev pub both_script : Task → Task → ℕ → ℕ → Script
both_script low high x y = enter low (λ r. enter high (λ s. make x y r s answer))

-- a task, and then the node whose low part is its answer
abbrev pub over_script : Task → ℕ → ℕ → ℕ → Script
over_script low x y hi = enter low (λ r. make x y r hi answer)

-- a task, and then the node whose high part is its answer, over nothing
abbrev pub lift_script : Task → ℕ → ℕ → Script
lift_script high x z = enter high (λ r. make x z 0 r answer)

-- s, as the high part of a node of x and z unless z is x, joined to r
abbrev pub rest_script : ℕ → ℕ → ℕ → ℕ → Bool → Script
rest_script x z r s true = enter (Join r s) answer
rest_script x z r s false = make x z 0 s (λ v. enter (Join r v) answer)

-- The rules of the kinds. Each goes by tests, the first of which that passes answers; what has no such answer is worked.
-- Two numbers, with their rows.
module _ (a b : ℕ) (p q : Node) where
  -- both low parts, then both high parts, then their node
  abbrev pub both : (ℕ → ℕ → Task) → Script
  both task = both_script (task p.lo q.lo) (task p.hi q.hi) p.x p.y

  -- the tests: a is 0; b is 0 or a
  abbrev pub join_body : Bool → Bool → Ordering → Script
  join_body true t w = answer b
  join_body false true w = answer a
  join_body false false Equal = both Join
  join_body false false Greater = over_script (Join p.lo b) p.x p.y p.hi
  join_body false false Less = over_script (Join a q.lo) q.x q.y q.hi

  -- the tests: a or b is 0; a is b
  abbrev pub meet_body : Bool → Bool → Ordering → Script
  meet_body true t w = answer 0
  meet_body false true w = answer a
  meet_body false false Equal = both Meet
  meet_body false false Greater = enter (Meet p.lo b) answer
  meet_body false false Less = enter (Meet a q.lo) answer

  -- the tests: a is 0 or b; b is 0
  abbrev pub without_body : Bool → Bool → Ordering → Script
  without_body true t w = answer 0
  without_body false true w = answer a
  without_body false false Equal = both Without
  without_body false false Greater = over_script (Without p.lo b) p.x p.y p.hi
  without_body false false Less = enter (Without a q.lo) answer

-- A number with its row p, a piece k, a place z, and the place that the row's move takes to z. The tests: a is 0; a is 1; the piece is the place
abbrev pub pick_body : Node → ℕ → ℕ → ℕ → ℕ → Bool → Bool → Bool → Script
pick_body p a k z from true t u = answer a
pick_body p a k z from false true true = answer 1
pick_body p a k z from false true false = answer 0
pick_body p a k z from false false u = both_script (Pick p.lo k z) (Pick p.hi k from) p.x p.y

module _ (g : Moves) where
  -- the high part hi carried by k, which takes x to z, and then joined to r: as a node of x and z, unless z is x
  abbrev pub high_body : ℕ → ℕ → ℕ → Order → ℕ → Bool → Script
  high_body x z hi k r true = enter (Carry hi k) (λ s. rest_script x z r s true)
  high_body x z hi k r false = enter (Carry hi (back g x z k)) (λ s. rest_script x z r s false)

  -- h after the move of the row p
  abbrev pub moved_by : Node → Order → Order
  moved_by p h = then (g p.x p.y) h

  -- the tests: a is 0; h is standing; h moves a piece above those of a
  abbrev pub carry_body : Node → ℕ → Order → Bool → Bool → Bool → Script
  carry_body p a h true t u = answer 0
  carry_body p a h false true u = answer a
  carry_body p a h false false true =
      lift_script (Carry a (back g (dimension h) (place h (dimension h)) h)) (dimension h) (place h (dimension h))
  carry_body p a h false false false =
      enter (Carry p.lo h) (λ r. high_body p.x (place (moved_by p h) p.x) p.hi (moved_by p h) r (place (moved_by p h) p.x == p.x))

  -- q is the row of b. The tests: a or b is 0; b is 1
  abbrev pub follow_body : Node → ℕ → ℕ → Bool → Bool → Script
  follow_body q a b true t = answer 0
  follow_body q a b false true = answer a
  follow_body q a b false false =
      enter (Follow a q.lo) (λ r. enter (Follow a q.hi) (λ s. enter (Carry s (g q.x q.y)) (λ v. enter (Join r v) answer)))

  -- what the move of the row p takes to z
  abbrev pub from_of : Node → ℕ → ℕ
  from_of p z = place (inverse (g p.x p.y)) z

  -- the rule of a task, read off the rows of its numbers
  abbrev pub body_by : Task → Node → Node → ℕ → ℕ → Script
  body_by (Join a b) p q i j = join_body a b p q (a == 0) (b == 0 || a == b) (nat_cmp i j)
  body_by (Meet a b) p q i j = meet_body a b p q (a == 0 || b == 0) (a == b) (nat_cmp i j)
  body_by (Without a b) p q i j = without_body a b p q (a == 0 || a == b) (b == 0) (nat_cmp i j)
  body_by (Carry a h) p q i j = carry_body p a h (a == 0) (same h standing) (nat_lt p.x (dimension h))
  body_by (Follow a b) p q i j = follow_body q a b (a == 0 || b == 0) (b == 1)
  body_by (Pick a k z) p q i j = pick_body p a k z (from_of p z) (a == 0) (a == 1) (k == z)

  -- the rule of a task on a table
  unfoldable pub body : List Node → Task → Script
  body N t = body_by t (row N (first_of t)) (row N (second_of t)) (level_of N (first_of t)) (level_of N (second_of t))
