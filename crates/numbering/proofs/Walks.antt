-- What the walk down a diagram reads, by the row of each node. Assumes nothing.
use Rattle.std.proofs.Common.{◌≡◌, ℕ, zero, suc, ◌+◌, ◌-◌, ◌^◌, ◌<◌, ◌≤◌, Bool, true, false, ◌⊎◌, List, map, length, Some, None, Option, sym, refl, ap, ap₂, ◌∙◌, subst, inl, inr, arith}
use mathlib.Core.Bool.{false≢true}
use Rattle.std.specs.Bool.{Decides, then_some}
use Rattle.orders.specs.declared.order.Order.{Order}
use Rattle.orders.specs.Orders.{place, standing, then, inverse}
use Rattle.orders.specs.Chains.{ChainLaws}
use Rattle.diagrams.specs.declared.Node.{Node}
use Rattle.diagrams.specs.Moves.{Moves, same, back}
use Rattle.diagrams.specs.Table.{at, Exists, x_of, y_of, lo_of, hi_of, count_of, fold, Sound, In}
use Rattle.diagrams.specs.Counting.{moved, orders_of}
use Rattle.diagrams.proofs.Groups.{same_refl, same_sound, move_back}
use Rattle.diagrams.proofs.Bounds.{count_sum}
use Rattle.diagrams.proofs.Places.{low, high}
use Rattle.diagrams.proofs.Canon.{in_parts}
use Rattle.diagrams.proofs.Counts.{list_node, counted}
use Rattle.tables.specs.Rows.{rows}
use Rattle.tables.proofs.Rows.{sound_of}
use Rattle.numbering.specs.declared.set.Set.{Set}
use Rattle.numbering.specs.declared.set.Split.{Split}
use Rattle.numbering.specs.Splitting.{Splits}
use Rattle.numbering.specs.Numbered.{item, place_by, place_in, order_at, place_of, Fetched, Placed}
use Rattle.numbering.proofs.Lists.{item_low, item_high, item_map, item_none}
use Rattle.numbering.proofs.Ranks.{below, listed, placed, fetches, places, placed_by, no_place}

-- a number with orders that is not 1 is a node's
pub is_node : (N : List Node) (n k : ℕ) → k < count_of N n → ¬ (n ≡ 1) → 2 ≤ n
unfolding count_of
is_node N zero k h ne = absurd (omega arith)
is_node N (suc zero) k h ne = absurd (ne refl)
is_node N (suc (suc i)) k h ne = omega arith

-- what holds of the number of every node holds of every number from 2 up
by_node : (N : List Node) (P : ℕ → Type 0) → ((i : ℕ) → i < length N → P (suc (suc i))) → (n : ℕ) → Exists N n → 2 ≤ n → P n
by_node N P f zero e h = absurd (omega arith)
by_node N P f (suc zero) e h = absurd (omega arith)
by_node N P f (suc (suc i)) e h = f i (omega arith)

-- the parts of a node are before it, and have its orders
pub parts_before : (N : List Node) → Sound N → (n : ℕ) → Exists N n → 2 ≤ n → (lo_of N n < n) × ((hi_of N n < n) × (count_of N n ≡ count_of N (lo_of N n) + count_of N (hi_of N n)))
unfolding lo_of hi_of count_of
parts_before N S = by_node N (λ n. (lo_of N n < n) × ((hi_of N n < n) × (count_of N n ≡ count_of N (lo_of N n) + count_of N (hi_of N n))))
    (λ i l. let k = S.ok i l in (k.lo_below, (k.hi_below, k.counted)))

module _ (g : Moves) (laws : ChainLaws g) (N : List Node) (S : Sound N) where
  place_zero : (o : Order) → place_of g N 0 o ≡ None
  unfolding place_of orders_of fold place_in
  place_zero o = refl

  place_one : (o : Order) (b : Bool) → Decides b (o ≡ standing) → place_of g N 1 o ≡ then_some b 0
  unfolding place_of orders_of fold place_in
  place_one o true d = rw (d.0 refl, same_refl standing)
  place_one o false d = by (same standing o) refl
    where
      by : (b : Bool) → same standing o ≡ b → place_by b None ≡ then_some false 0
      by true e = absurd (false≢true (d.1 (sym (same_sound standing o e))))
      by false e = refl

  order_one : (k : ℕ) → k < count_of N 1 → order_at g N 1 k ≡ Some standing
  unfolding order_at orders_of fold item count_of
  order_one zero h = refl
  order_one (suc k) h = absurd (omega arith)

  module _ (i : ℕ) (l : i < length N) where
    abbrev lo : ℕ
    lo = (at N i).lo

    abbrev hi : ℕ
    hi = (at N i).hi

    abbrev n : ℕ
    n = suc (suc i)

    there : Exists N n × (Exists N lo × Exists N hi)
    there = let k = S.ok i l in (omega arith, (omega arith, omega arith))

    at_low : (k : ℕ) → k < count_of N lo → order_at g N n k ≡ order_at g N lo k
    unfolding order_at
    at_low k h =
        rw (list_node g laws N S i l)
        (item_low (orders_of g N lo) (map (moved g (at N i)) (orders_of g N hi)) k (omega (arith, (counted g laws N S lo there.1.0).long)))

    at_high : (k : ℕ) (o : Order) → order_at g N hi k ≡ Some o → order_at g N n (count_of N lo + k) ≡ Some (then o (g (at N i).x (at N i).y))
    unfolding order_at
    at_high k o e =
        rw (list_node g laws N S i l, ← (counted g laws N S lo there.1.0).long)
        (item_high (orders_of g N lo) (map (moved g (at N i)) (orders_of g N hi)) k ∙ item_map (moved g (at N i)) (orders_of g N hi) k o e)

    at_place_low : (o : Order) → ¬ (place o (at N i).x ≡ (at N i).y) → place_of g N n o ≡ place_of g N lo o
    at_place_low o ne = by (place_of g N lo o) (places g laws N S lo there.1.0 o)
      where
        out : (In g N lo o → ⊥) → (In g N lo o) ⊎ (In g N hi (back g (at N i).x (at N i).y o)) → ⊥
        out h (inl m) = h m
        out h (inr m) = ne (high g laws N S i l o m).reached

        by : (r : Option ℕ) → Placed g N lo o r → place_of g N n o ≡ r
        by None h = no_place g laws N S n there.0 o (λ m. out h (in_parts g N S i l o m))
        by (Some k) h =
            (placed g laws N S n there.0 k o).1 ((listed g laws N S n there.0 k o).0
            (at_low k (below g laws N S lo there.1.0 k o h) ∙ (listed g laws N S lo there.1.0 k o).1 h))

    module _ (o : Order) (e : place o (at N i).x ≡ (at N i).y) where
      abbrev b : Order
      b = back g (at N i).x (at N i).y o

      at_place_high : (k : ℕ) → place_of g N hi b ≡ Some k → place_of g N n o ≡ Some (count_of N lo + k)
      at_place_high k q =
          let a = (placed g laws N S hi there.1.1 k b).0 q in
          let w = at_high k b ((listed g laws N S hi there.1.1 k b).1 a) in
          (placed g laws N S n there.0 (count_of N lo + k) o).1
          ((listed g laws N S n there.0 (count_of N lo + k) o).0 (w ∙ ap (λ (c : Order). Some c) (move_back g (at N i).x (at N i).y o)))

      at_place_gone : place_of g N hi b ≡ None → place_of g N n o ≡ None
      at_place_gone q = no_place g laws N S n there.0 o (λ m. out (in_parts g N S i l o m))
        where
          out : (In g N lo o) ⊎ (In g N hi b) → ⊥
          out (inl m) = omega (arith, e, (low g laws N S i l o m).above)
          out (inr m) = placed_by g laws N S hi there.1.1 b None q m

  -- an order with a move taken off, in the steps of the code
  taken_off : (o m v t : Order) (x y : ℕ) → m ≡ g x y → v ≡ inverse m → t ≡ then o v → t ≡ back g x y o
  taken_off o m v t x y step inv off = off ∙ ap (then o) (inv ∙ ap inverse step)

  -- the same of the number of a node
  module _ (n : ℕ) (e : Exists N n) (h : 2 ≤ n) where
    low_at : (k : ℕ) → k < count_of N (lo_of N n) → order_at g N n k ≡ order_at g N (lo_of N n) k
    unfolding lo_of
    low_at = by_node N (λ n. (k : ℕ) → k < count_of N (lo_of N n) → order_at g N n k ≡ order_at g N (lo_of N n) k) at_low n e h

    high_at : (k : ℕ) (o : Order) → order_at g N (hi_of N n) k ≡ Some o → order_at g N n (count_of N (lo_of N n) + k) ≡ Some (then o (g (x_of N n) (y_of N n)))
    unfolding lo_of hi_of x_of y_of
    high_at =
        by_node N (λ n. (k : ℕ) (o : Order) → order_at g N (hi_of N n) k ≡ Some o → order_at g N n (count_of N (lo_of N n) + k) ≡ Some (then o (g (x_of N n) (y_of N n))))
        at_high n e h

    low_place : (o : Order) → ¬ (place o (x_of N n) ≡ y_of N n) → place_of g N n o ≡ place_of g N (lo_of N n) o
    unfolding lo_of x_of y_of
    low_place = by_node N (λ n. (o : Order) → ¬ (place o (x_of N n) ≡ y_of N n) → place_of g N n o ≡ place_of g N (lo_of N n) o) at_place_low n e h

    high_place : (o : Order) → place o (x_of N n) ≡ y_of N n → (k : ℕ) → place_of g N (hi_of N n) (back g (x_of N n) (y_of N n) o) ≡ Some k → place_of g N n o ≡ Some (count_of N (lo_of N n) + k)
    unfolding lo_of hi_of x_of y_of
    high_place =
        by_node N (λ n. (o : Order) → place o (x_of N n) ≡ y_of N n → (k : ℕ) → place_of g N (hi_of N n) (back g (x_of N n) (y_of N n) o) ≡ Some k
        → place_of g N n o ≡ Some (count_of N (lo_of N n) + k))
        at_place_high n e h

    high_gone : (o : Order) → place o (x_of N n) ≡ y_of N n → place_of g N (hi_of N n) (back g (x_of N n) (y_of N n) o) ≡ None → place_of g N n o ≡ None
    unfolding hi_of x_of y_of
    high_gone =
        by_node N (λ n. (o : Order) → place o (x_of N n) ≡ y_of N n → place_of g N (hi_of N n) (back g (x_of N n) (y_of N n) o) ≡ None → place_of g N n o ≡ None)
        at_place_gone n e h

-- r is what is to be read of a set, and has its meaning
module _ (g : Moves) (laws : ChainLaws g) (s : Set) where
  abbrev Nodes : List Node
  Nodes = rows s.table.now

  abbrev number : ℕ
  number = s.number

  abbrev sound : Sound Nodes
  sound = sound_of s.table.now

  abbrev Fetch : ℕ → Option Order → Type 0
  Fetch k r = (r ≡ order_at g Nodes number k) × Fetched g Nodes number k r

  fetch : (k : ℕ) (r : Option Order) → order_at g Nodes number k ≡ r → Fetch k r
  fetch k r q = (sym q, subst (Fetched g Nodes number k) q (fetches g laws Nodes sound number s.exists k))

  pub fetch_none : (k : ℕ) → count_of Nodes number ≤ k → Fetch k None
  fetch_none k h = fetch k None (unfold order_at in item_none (orders_of g Nodes number) k (omega (arith, (counted g laws Nodes sound number s.exists).long)))

  pub fetch_one : (k : ℕ) (o : Order) → number ≡ 1 → k < count_of Nodes number → o ≡ standing → Fetch k (Some o)
  fetch_one k o one h is = fetch k (Some o) (subst (λ (m : ℕ). order_at g Nodes m k ≡ Some o) (sym one) (order_one g laws Nodes sound k (rw one at h) ∙ ap (λ (p : Order). Some p) (sym is)))

  abbrev Place : Order → Option ℕ → Type 0
  Place o r = (r ≡ place_of g Nodes number o) × Placed g Nodes number o r

  find : (o : Order) (r : Option ℕ) → place_of g Nodes number o ≡ r → Place o r
  find o r q = (sym q, subst (Placed g Nodes number o) q (places g laws Nodes sound number s.exists o))

  pub place_none : (o : Order) → number ≡ 0 → Place o None
  place_none o is = find o None (rw is (place_zero g laws Nodes sound o))

  pub place_standing : (o : Order) (b : Bool) → number ≡ 1 → Decides b (o ≡ standing) → Place o (then_some b 0)
  place_standing o b one d = find o (then_some b 0) (rw one (place_one g laws Nodes sound o b d))

  -- by the parts of a node's set
  module _ (b : Split) (h : 2 ≤ number) (p : Splits s b) where
    abbrev Low : List Node
    Low = rows b.low.table.now

    abbrev High : List Node
    High = rows b.high.table.now

    low_is : {A : Type 0} (f : List Node → ℕ → A) → f Low b.low.number ≡ f Nodes (lo_of Nodes number)
    low_is f = ap (λ t. f (rows t.now) b.low.number) p.low_table ∙ ap (f Nodes) p.low

    high_is : {A : Type 0} (f : List Node → ℕ → A) → f High b.high.number ≡ f Nodes (hi_of Nodes number)
    high_is f = ap (λ t. f (rows t.now) b.high.number) p.high_table ∙ ap (f Nodes) p.high

    pub parts_below : (b.low.number < number) × (b.high.number < number)
    parts_below = let q = parts_before Nodes sound number s.exists h in (omega (arith, p.low), omega (arith, p.high))

    pub fetch_low : (k : ℕ) (r : Option Order) → k < count_of Low b.low.number → r ≡ order_at g Low b.low.number k → Fetch k r
    fetch_low k r l q = fetch k r (low_at g laws Nodes sound number s.exists h k (omega (arith, low_is count_of)) ∙ sym (q ∙ low_is (λ M m. order_at g M m k)))

    pub fetch_high : (k low : ℕ) (o m v : Order) → low ≡ count_of Low b.low.number → low ≤ k → Some o ≡ order_at g High b.high.number (k - low) → m ≡ g b.x b.y → v ≡ then o m → Fetch k (Some v)
    fetch_high k low o m v counts l q step w =
        let z : count_of Nodes (lo_of Nodes number) + (k - low) ≡ k = omega (arith, low_is count_of) in
        let up = high_at g laws Nodes sound number s.exists h (k - low) o (sym (q ∙ high_is (λ M m. order_at g M m (k - low)))) in
        fetch k (Some v) ((rw z at up) ∙ ap (λ (a : Order). Some a) (sym (w ∙ ap (then o) (step ∙ ap₂ g p.x p.y))))

    -- a number below the count that is not in the low part is in the high part
    pub fetch_some : (k low : ℕ) → k < count_of Nodes number → low ≡ count_of Low b.low.number → low ≤ k → count_of High b.high.number ≤ k - low → ⊥
    fetch_some k low a c e d = omega (arith, parts_before Nodes sound number s.exists h, low_is count_of, high_is count_of)

    reached : (o : Order) (z : ℕ) → z ≡ place o b.x → z ≡ b.y → place o (x_of Nodes number) ≡ y_of Nodes number
    reached o z at to = sym (at ∙ ap (place o) p.x) ∙ to ∙ p.y

    pub place_low : (o : Order) (r : Option ℕ) (z : ℕ) → z ≡ place o b.x → ¬ (z ≡ b.y) → r ≡ place_of g Low b.low.number o → Place o r
    place_low o r z at ne q =
        find o r (low_place g laws Nodes sound number s.exists h o (λ w. ne (at ∙ ap (place o) p.x ∙ w ∙ sym p.y)) ∙ sym (q ∙ low_is (λ M m. place_of g M m o)))

    pub place_high : (o m v t : Order) (k low z : ℕ) → z ≡ place o b.x → z ≡ b.y → m ≡ g b.x b.y → v ≡ inverse m → t ≡ then o v → Some k ≡ place_of g High b.high.number t → low ≡ count_of Low b.low.number
        → Place o (Some (low + k))
    place_high o m v t k low z at to step inv off q counts =
        find o (Some (low + k))
        (high_place g laws Nodes sound number s.exists h o (reached o z at to) k
        (ap (place_of g Nodes (hi_of Nodes number)) (sym (taken_off g laws Nodes sound o m v t _ _ (step ∙ ap₂ g p.x p.y) inv off)) ∙ sym (q ∙ high_is (λ M m. place_of g M m t)))
        ∙ ap (λ (c : ℕ). Some (c + k)) (sym (counts ∙ low_is count_of)))

    pub place_gone : (o m v t : Order) (z : ℕ) → z ≡ place o b.x → z ≡ b.y → m ≡ g b.x b.y → v ≡ inverse m → t ≡ then o v → None ≡ place_of g High b.high.number t → Place o None
    place_gone o m v t z at to step inv off q =
        find o None
        (high_gone g laws Nodes sound number s.exists h o (reached o z at to)
        (ap (place_of g Nodes (hi_of Nodes number)) (sym (taken_off g laws Nodes sound o m v t _ _ (step ∙ ap₂ g p.x p.y) inv off)) ∙ sym (q ∙ high_is (λ M m. place_of g M m t))))

    -- a place in the high part, after those of the low part, fits
    pub place_fits : (o : Order) (k count : ℕ) → Placed g High b.high.number o (Some k) → count ≡ count_of Low b.low.number → count + k < 2 ^ 64
    place_fits o k count w counts =
        let there = parts_before Nodes sound number s.exists h in
        omega (arith, low_is count_of, high_is count_of, count_sum Nodes sound (lo_of Nodes number) (hi_of Nodes number) (omega (arith, s.exists)) (omega (arith, s.exists)), below g laws High (sound_of b.high.table.now) b.high.number b.high.exists k o w)
