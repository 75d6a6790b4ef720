-- A set's top, from where its orders send the pieces. Assumes nothing.
use Rattle.std.proofs.Common.{◌≡◌, ℕ, zero, suc, ◌<◌, ◌≤◌, ◌||◌, List, length, ap, arith}
use native.Mathlib.Decide.{dec_lt}
use Rattle.orders.specs.declared.order.Order.{Order}
use Rattle.orders.specs.Orders.{place}
use Rattle.orders.specs.Chains.{ChainLaws}
use Rattle.diagrams.specs.declared.Node.{Node}
use Rattle.diagrams.specs.Moves.{Moves, back}
use Rattle.diagrams.specs.Level.{level}
use Rattle.diagrams.specs.Table.{at, Exists, x_of, y_of, lo_of, hi_of, level_of, Sound, NodeOk, mem, In}
use Rattle.diagrams.proofs.Levels.{level_x, level_y, level_pos}
use Rattle.diagrams.proofs.Folds.{mem_node}
use Rattle.diagrams.proofs.Places.{Low, High, upto, low_from, high_from}
use Rattle.diagrams.proofs.Canon.{tells}
use Rattle.diagrams.proofs.Numbers.{top_below, parts}

module _ (g : Moves) (N : List Node) (S : Sound N) where
  -- the set of a node, by its parts
  pub mem_parts : (n : ℕ) → Exists N n → 2 ≤ n → (o : Order) → mem g N n o ≡ (mem g N (lo_of N n) o || mem g N (hi_of N n) (back g (x_of N n) (y_of N n) o))
  unfolding x_of y_of lo_of hi_of
  mem_parts zero e h o = absurd (omega arith)
  mem_parts (suc zero) e h o = absurd (omega arith)
  mem_parts (suc (suc i)) e h o = mem_node g N S i (omega arith) o

module _ (g : Moves) (laws : ChainLaws g) (N : List Node) (S : Sound N) where
  -- a set of orders that leave x and above has a smaller top
  pub x_if_still : (x n : ℕ) → Exists N n → 1 ≤ x → ((o : Order) → In g N n o → (k : ℕ) → x ≤ k → k ≤ 16 → place o k ≡ k) → x_of N n < x
  unfolding x_of
  x_if_still x zero e h f = h
  x_if_still x (suc zero) e h f = h
  x_if_still x (suc (suc i)) e h f = by (dec_lt (at N i).x x)
    where
      by : Dec ((at N i).x < x) → (at N i).x < x
      by (yes q) = q
      by (no q) =
          let l : i < length N = omega arith in
          let k = S.ok i l in
          let r = tells g laws N S i l in
          absurd (omega (arith, r.1.1, f r.0 r.1.0 (at N i).x (omega arith) k.x_max))

  -- a set of orders that leave what is above x and send x above y has a lower top
  pub level_if_low : (x y n : ℕ) → Exists N n → 1 ≤ y → y < x → ((o : Order) → In g N n o → Low x y o) → level_of N n < level x y
  unfolding level_of
  level_if_low x y zero e hy hx f = level_pos x y hx
  level_if_low x y (suc zero) e hy hx f = level_pos x y hx
  level_if_low x y (suc (suc i)) e hy hx f = by (S.ok i (omega arith)) (dec_lt (at N i).x x) (dec_lt x (at N i).x)
    where
      r : (o : Order) × (In g N (suc (suc i)) o × (place o (at N i).x ≡ (at N i).y))
      r = tells g laws N S i (omega arith)

      t : Low x y r.0
      t = f r.0 r.1.0

      by : NodeOk N i (at N i) → Dec ((at N i).x < x) → Dec (x < (at N i).x) → level (at N i).x (at N i).y < level x y
      by k (yes p) d = level_x _ _ _ _ k.y_min k.y_below hx p
      by k (no p) (yes q) = absurd (omega (arith, r.1.1, t.still (at N i).x q k.x_max))
      by k (no p) (no q) =
          let z : (at N i).x ≡ x = omega arith in
          let w : y < (at N i).y = omega (arith, r.1.1, t.above, ap (place r.0) z) in
          rw z (level_y x (at N i).y y (omega arith) w)

  -- the orders of a set below a level
  pub low_if_level : (x y n : ℕ) → Exists N n → x ≤ 16 → 1 ≤ y → y < x → level_of N n < level x y → (o : Order) → In g N n o → Low x y o
  low_if_level x y n e hm hy hx l o m = low_from x y _ _ o hm hx (top_below N S n x y e hy hx l) (upto g laws N S n e o m)

  -- the orders of the high part leave x and above
  pub high_still : (n : ℕ) → Exists N n → 2 ≤ n → (o : Order) → In g N (hi_of N n) o → (k : ℕ) → x_of N n ≤ k → k ≤ 16 → place o k ≡ k
  high_still n e h o m k a b =
      let p = parts N S n e h in
      (upto g laws N S (hi_of N n) (omega arith) o m).still k (omega arith) b

  -- the orders of the high part, moved, send x to y
  pub high_at : (n : ℕ) → Exists N n → 2 ≤ n → (o : Order) → In g N (hi_of N n) (back g (x_of N n) (y_of N n) o) → High (x_of N n) (y_of N n) o
  high_at n e h o m =
      let p = parts N S n e h in
      let q : Exists N (hi_of N n) = omega arith in
      high_from g laws (x_of N n) (y_of N n) _ _ o p.x_max p.y_below p.y_min p.hi_x (upto g laws N S (hi_of N n) q _ m)
