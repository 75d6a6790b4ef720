-- A table is sound in one way at most, so that a struct can have it for a ghost field. Assumes nothing.
use mathlib.Core.Logic.{∥∥₁_elim}
use Rattle.std.proofs.Common.{ℕ, List}
use native.Mathlib.Bridge.{le_prop}
use native.Mathlib.Nat.{ℕ_set}
use Rattle.diagrams.specs.declared.Node.{Node}
use Rattle.diagrams.specs.Table.{at, Sound, NodeOk}

node_ok_prop : (N : List Node) (i : ℕ) (a : Node) → IsProp (NodeOk N i a)
node_ok_prop N i a p q = λ j. record {
  x_max = le_prop p.x_max q.x_max j;
  y_min = le_prop p.y_min q.y_min j;
  y_below = le_prop p.y_below q.y_below j;
  lo_level = le_prop p.lo_level q.lo_level j;
  hi_x = le_prop p.hi_x q.hi_x j;
  hi_some = le_prop p.hi_some q.hi_some j;
  lo_below = le_prop p.lo_below q.lo_below j;
  hi_below = le_prop p.hi_below q.hi_below j;
  counted = ℕ_set _ _ p.counted q.counted j;
}

pub sound_prop : (N : List Node) → IsProp (Sound N)
sound_prop N p q = λ j. record {
  ok = λ i l. node_ok_prop N i (at N i) (p.ok i l) (q.ok i l) j;
  apart = λ i k l m s. ℕ_set i k (p.apart i k l m s) (q.apart i k l m s) j;
}

-- what a ghost field holds
pub sound_out : (N : List Node) → ∥ Sound N ∥₁ → Sound N
sound_out N t = ∥∥₁_elim t (sound_prop N) (λ s. s)
