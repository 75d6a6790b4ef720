-- The rule `node`, by what the search found. Assumes nothing.
use Rattle.std.proofs.Common.{◌≡◌, ℕ, suc, ◌+◌, ◌^◌, ◌<◌, ◌≤◌, Bool, true, false, ltb, List, length, Some, None, Ok, Err, Result, sym, refl, ap, ◌∙◌, subst, ap₂, arith, ltb-false, ltb-true, eq-eqb}
use mathlib.Core.Bool.{false≢true}
use Rattle.orders.specs.declared.refusal.Refusal.{Refusal}
use Rattle.orders.specs.declared.refusal.Refusal.TheVariants.{NoRoom}
use Rattle.diagrams.specs.declared.Node.{Node}
use Rattle.diagrams.specs.Table.{at, blank, count_of, Same, Sound}
use Rattle.diagrams.specs.Rules.{Outcome, is_node, find, new_node, node, Asks}
use Rattle.diagrams.specs.Bodies.{row}
use Rattle.diagrams.proofs.Bounds.{count_max}
use Rattle.diagrams.proofs.Nodes.{node_none, node_found, node_new, node_full}
use Rattle.diagrams.proofs.Pushes.{pushed, push_sound, first_none}
use Rattle.tables.specs.Rows.{found_by, found, Makes}

makes_from : {o p : Outcome} (M : List Node) (n : ℕ) (r : Result ℕ Refusal) → o ≡ p → Makes p M n r → Makes o M n r
makes_from M n r e h = subst (λ q. Makes q M n r) (sym e) h

some_by : (i v : ℕ) (t : Bool) → Some v ≡ found_by i t → (t ≡ true) × (v ≡ suc (suc i))
some_by i v true e = (refl, cc)
some_by i v false e = let z : ◌≡◌ {A = ℕ} 0 1 = cc in absurd (omega arith)

none_by : (i : ℕ) (t : Bool) → None ≡ found_by i t → t ≡ false
none_by i true e = let z : ◌≡◌ {A = ℕ} 0 1 = cc in absurd (omega arith)
none_by i false e = refl

module _ (N : List Node) (x y lo hi : ℕ) where
  abbrev place : ℕ
  place = find N x y lo hi

  there : (v : ℕ) → Some v ≡ found N x y lo hi → (place < length N) × (v ≡ suc (suc place))
  unfolding found
  there v e = let q = some_by place v (ltb place (length N)) e in (ltb-true place (length N) q.0, q.1)

  absent : None ≡ found N x y lo hi → length N ≤ place
  unfolding found
  absent e = ltb-false place (length N) (none_by place (ltb place (length N)) e)

  pub makes_low : (cap : ℕ) → hi ≡ 0 → (n : ℕ) → Makes (node cap N x y lo hi n) N n (Ok lo)
  makes_low cap e n = makes_from N n (Ok lo) (node_none cap x y lo hi n N e) (refl, refl, refl)

  pub makes_found : (cap v : ℕ) → ¬ (hi ≡ 0) → Some v ≡ found N x y lo hi → (n : ℕ) → Makes (node cap N x y lo hi n) N n (Ok v)
  makes_found cap v ne e n = makes_from N n (Ok v) (node_found cap x y lo hi n N ne (there v e).0) (refl, (there v e).1, refl)

  pub makes_full : (cap : ℕ) → ¬ (hi ≡ 0) → None ≡ found N x y lo hi → cap ≤ length N → (n : ℕ) → Makes (node cap N x y lo hi n) N n (Err NoRoom)
  makes_full cap ne e full n = makes_from N n (Err NoRoom) (node_full cap x y lo hi n N ne (absent e) full) (refl, refl)

  -- the node that is asked for may stand at the end, if it is not there
  may_stand : Sound N → Asks N x y lo hi → ¬ (hi ≡ 0) → None ≡ found N x y lo hi → Sound (pushed N (new_node N x y lo hi))
  may_stand S k ne e = push_sound N (new_node N x y lo hi) S record {
    x_max = k.x_max;
    y_min = k.y_min;
    y_below = k.y_below;
    lo_level = k.lo_level;
    hi_x = k.hi_x;
    hi_some = omega arith;
    lo_below = k.lo_there;
    hi_below = k.hi_there;
    counted = refl;
  } fresh
    where
      fresh : (i : ℕ) → i < length N → Same (at N i) (new_node N x y lo hi) → ⊥
      fresh i l s =
          let t : is_node x y lo hi (at N i) ≡ true =
          rw (eq-eqb (at N i).x x s.same_x, eq-eqb (at N i).y y s.same_y, eq-eqb (at N i).lo lo s.same_lo, eq-eqb (at N i).hi hi s.same_hi) refl
          in
          false≢true (sym (first_none (is_node x y lo hi) blank N (absent e) i l) ∙ t)

  -- the node as it is put together from the rows that were read
  module _ (p q : Node) (low : p ≡ row N lo) (high : q ≡ row N hi) where
    sum_read : p.orders + q.orders ≡ count_of N lo + count_of N hi
    sum_read = ap₂ (λ (a b : Node). a.orders + b.orders) low high

    node_read : pushed N record { x = x; y = y; lo = lo; hi = hi; orders = p.orders + q.orders } ≡ pushed N (new_node N x y lo hi)
    node_read = ap (λ k. pushed N record { x = x; y = y; lo = lo; hi = hi; orders = k }) sum_read

    pub sum_fits : Sound N → Asks N x y lo hi → p.orders + q.orders < 2 ^ 64
    sum_fits S k = omega (arith, sum_read, count_max N S lo k.lo_there, count_max N S hi k.hi_there)

    pub new_sound : Sound N → Asks N x y lo hi → ¬ (hi ≡ 0) → None ≡ found N x y lo hi
        → Sound (pushed N record { x = x; y = y; lo = lo; hi = hi; orders = p.orders + q.orders })
    new_sound S k ne e = subst Sound (sym node_read) (may_stand S k ne e)

    pub makes_new : (cap v : ℕ) (M : List Node) → ¬ (hi ≡ 0) → None ≡ found N x y lo hi → length N < cap
        → M ≡ pushed N record { x = x; y = y; lo = lo; hi = hi; orders = p.orders + q.orders } → v ≡ suc (suc (length N))
        → (n : ℕ) → Makes (node cap N x y lo hi n) M n (Ok v)
    makes_new cap v M ne e room is number n =
        makes_from M n (Ok v) (node_new cap x y lo hi n N ne (absent e) room) (is ∙ node_read, number, refl)
