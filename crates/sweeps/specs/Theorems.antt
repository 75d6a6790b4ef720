-- The law of sweeps, in words of sets, as src/theorems.rt cites it. Assumes nothing.
use Rattle.std.specs.Prelude.{◌≡◌, ℕ, ◌<◌, ◌≤◌, true, ◌↔◌, List, Some, Option, slice_index_or}
use Rattle.orders.specs.declared.order.Order.{Order}
use Rattle.diagrams.specs.declared.Node.{Node}
use Rattle.diagrams.specs.Moves.{Moves}
use Rattle.diagrams.specs.Table.{Exists, Sound, x_of, y_of, lo_of, hi_of, count_of, In}
use Rattle.sweeps.specs.Reaching.{empty, Pegs, Reached, reached}
use Rattle.sweeps.specs.Sweeping.{swept, renumbered, pegs_after}

-- A sound table N, swept: what is reached keeps its set, and nothing else is kept.
pub record Sweep (N : List Node) (pegs : List (Option ℕ)) : Type 0 where
  -- the test tells what is reached
  pub tells : (n : ℕ) → Exists N n → (reached N pegs n ≡ true) ↔ Reached N pegs n
  pub sound : Sound (swept N pegs)
  -- a number that is reached has a new number, with the same set of orders by every chain, and the same count
  pub there : (n : ℕ) → Reached N pegs n → Exists (swept N pegs) (renumbered N pegs n)
  pub same_set : (g : Moves) (n : ℕ) → Reached N pegs n → (o : Order) → In g (swept N pegs) (renumbered N pegs n) o ↔ In g N n o
  pub same_count : (n : ℕ) → Reached N pegs n → count_of (swept N pegs) (renumbered N pegs n) ≡ count_of N n
  -- a node that is reached is the same node, with the new numbers of its parts
  pub same_x : (n : ℕ) → Reached N pegs n → x_of (swept N pegs) (renumbered N pegs n) ≡ x_of N n
  pub same_y : (n : ℕ) → Reached N pegs n → y_of (swept N pegs) (renumbered N pegs n) ≡ y_of N n
  pub same_lo : (n : ℕ) → Reached N pegs n → lo_of (swept N pegs) (renumbered N pegs n) ≡ renumbered N pegs (lo_of N n)
  pub same_hi : (n : ℕ) → Reached N pegs n → hi_of (swept N pegs) (renumbered N pegs n) ≡ renumbered N pegs (hi_of N n)
  -- 0 and 1 keep their numbers, and the nodes that are reached their order: no two have one number
  pub ends : (renumbered N pegs 0 ≡ 0) × (renumbered N pegs 1 ≡ 1)
  pub in_order : (n m : ℕ) → Reached N pegs n → Reached N pegs m → n < m → renumbered N pegs n < renumbered N pegs m
  -- no other node is left: each has the new number of a node that is reached
  pub no_other : (m : ℕ) → 2 ≤ m → Exists (swept N pegs) m → (n : ℕ) × ((2 ≤ n) × (Exists N n × (Reached N pegs n × (renumbered N pegs n ≡ m))))
  -- a peg has the new number of what it had
  pub held : (p n : ℕ) → slice_index_or pegs p empty ≡ Some n → slice_index_or (pegs_after N pegs) p empty ≡ Some (renumbered N pegs n)

abbrev pub SweepStands : Type 0
SweepStands = (N : List Node) (pegs : List (Option ℕ)) → Sound N → Pegs N pegs → Sweep N pegs
