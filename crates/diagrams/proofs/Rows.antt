-- What a longer table says of a number that was there, and of a task. Assumes nothing.
use Rattle.std.proofs.Common.{◌≡◌, ℕ, zero, suc, ◌+◌, ◌*◌, ◌<◌, max, List, refl, ap, ap₂, arith}
use Rattle.orders.specs.Dimension.{dimension, dimension_within}
use Rattle.diagrams.specs.declared.Node.{Node}
use Rattle.diagrams.specs.declared.Task.{Task}
use Rattle.diagrams.specs.declared.Task.TheVariants.{Join, Meet, Without, Carry, Follow, Pick}
use Rattle.diagrams.specs.Moves.{Moves}
use Rattle.diagrams.specs.Table.{Exists, Extends, Sound, lo_of, hi_of}
use Rattle.diagrams.specs.Bodies.{first_of, second_of, row, body}
use Rattle.diagrams.specs.Work.{Valid, measure, depth}
use Rattle.diagrams.proofs.Folds.{x_more, y_more, level_more, count_more}
use Rattle.diagrams.proofs.Numbers.{level_max, x_max}

pub lo_more : (N M : List Node) → Extends N M → (n : ℕ) → Exists N n → lo_of M n ≡ lo_of N n
unfolding lo_of
lo_more N M X zero e = refl
lo_more N M X (suc zero) e = refl
lo_more N M X (suc (suc i)) e = ap (λ (a : Node). a.lo) (X.kept i (omega arith))

pub hi_more : (N M : List Node) → Extends N M → (n : ℕ) → Exists N n → hi_of M n ≡ hi_of N n
unfolding hi_of
hi_more N M X zero e = refl
hi_more N M X (suc zero) e = refl
hi_more N M X (suc (suc i)) e = ap (λ (a : Node). a.hi) (X.kept i (omega arith))

pub still_valid : (N M : List Node) (t : Task) → Extends N M → Valid N t → Valid M t
still_valid N M (Join a b) X v = (omega (arith, X.longer), omega (arith, X.longer))
still_valid N M (Meet a b) X v = (omega (arith, X.longer), omega (arith, X.longer))
still_valid N M (Without a b) X v = (omega (arith, X.longer), omega (arith, X.longer))
still_valid N M (Carry a h) X v = omega (arith, X.longer)
still_valid N M (Follow a b) X v = (omega (arith, X.longer), omega (arith, X.longer))
still_valid N M (Pick a k p) X v = (omega (arith, X.longer), v.1, v.2, v.3)

pub row_more : (N M : List Node) → Extends N M → (n : ℕ) → Exists N n → row M n ≡ row N n
row_more N M X n e = simp (x_more N M X n e, y_more N M X n e, lo_more N M X n e, hi_more N M X n e, count_more N M X n e)

pub first_in : (N : List Node) (t : Task) → Valid N t → Exists N (first_of t)
first_in N (Join a b) v = v.0
first_in N (Meet a b) v = v.0
first_in N (Without a b) v = v.0
first_in N (Carry a h) v = v
first_in N (Follow a b) v = v.0
first_in N (Pick a k p) v = v.0

pub second_in : (N : List Node) (t : Task) → Valid N t → Exists N (second_of t)
second_in N (Join a b) v = v.1
second_in N (Meet a b) v = v.1
second_in N (Without a b) v = v.1
second_in N (Carry a h) v = omega arith
second_in N (Follow a b) v = v.1
second_in N (Pick a k p) v = omega arith

pub same_measure : (N M : List Node) (t : Task) → Extends N M → Valid N t → measure M t ≡ measure N t
same_measure N M (Join a b) X v = ap₂ ◌+◌ (level_more N M X a v.0) (level_more N M X b v.1)
same_measure N M (Meet a b) X v = ap₂ ◌+◌ (level_more N M X a v.0) (level_more N M X b v.1)
same_measure N M (Without a b) X v = ap₂ ◌+◌ (level_more N M X a v.0) (level_more N M X b v.1)
same_measure N M (Carry a h) X v = ap₂ (λ (x l : ℕ). 250 + (max x (dimension h) * 128 + l)) (x_more N M X a v) (level_more N M X a v)
same_measure N M (Follow a b) X v = ap (λ (l : ℕ). 2450 + l) (level_more N M X b v.1)
same_measure N M (Pick a k p) X v = level_more N M X a v.0

pub shallow : (N : List Node) (t : Task) → Sound N → Valid N t → measure N t < depth
unfolding depth
shallow N (Join a b) S v = omega (arith, level_max N S a v.0, level_max N S b v.1)
shallow N (Meet a b) S v = omega (arith, level_max N S a v.0, level_max N S b v.1)
shallow N (Without a b) S v = omega (arith, level_max N S a v.0, level_max N S b v.1)
shallow N (Carry a h) S v = omega (arith, level_max N S a v, x_max N S a v, dimension_within h)
shallow N (Follow a b) S v = omega (arith, level_max N S b v.1)
shallow N (Pick a k p) S v = omega (arith, level_max N S a v.0)

module _ (g : Moves) where
  pub same_body : (N M : List Node) (t : Task) → Extends N M → Valid N t → body g M t ≡ body g N t
  unfolding body
  same_body N M t X v =
      let a = first_of t in
      let b = second_of t in
      let ea = first_in N t v in
      let eb = second_in N t v in
      simp (row_more N M X a ea, row_more N M X b eb, level_more N M X a ea, level_more N M X b eb)
