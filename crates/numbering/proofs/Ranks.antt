-- The numbers of the orders of a set. Assumes nothing.
use Rattle.std.proofs.Common.{◌≡◌, ℕ, zero, suc, ◌<◌, ◌≤◌, ◌⊎◌, ◌↔◌, List, ◌∷◌, map, length, Some, None, Option, sym, refl, ap, ◌∙◌, subst, inl, inr, arith}
use native.Mathlib.Decide.{dec_lt}
use Rattle.orders.specs.declared.order.Order.{Order}
use Rattle.orders.specs.Orders.{place, then}
use Rattle.orders.specs.Chains.{Pair, ChainLaws}
use Rattle.orders.specs.Factors.{StillAbove}
use Rattle.diagrams.specs.declared.Node.{Node}
use Rattle.diagrams.specs.Moves.{Moves, back}
use Rattle.diagrams.specs.Table.{at, Exists, x_of, y_of, lo_of, hi_of, count_of, fold, Sound, In}
use Rattle.diagrams.specs.Counting.{Has, Distinct, moved, orders_of}
use Rattle.diagrams.specs.Theorems.{Counted}
use Rattle.diagrams.proofs.Groups.{back_move}
use Rattle.diagrams.proofs.Places.{low, high}
use Rattle.diagrams.proofs.Canon.{in_low, in_high}
use Rattle.diagrams.proofs.Counts.{map_has, list_node, counted}
use Rattle.diagrams.proofs.Sets.{stands}
use Rattle.numbering.specs.Before.{Before}
use Rattle.numbering.specs.Numbered.{Numbered, item, order_at, place_of, Fetched, Placed}
use Rattle.numbering.specs.Theorems.{Numbering}
use Rattle.numbering.proofs.Factors.{higher_first, moved_before, irreflexive, transitive, compare}
use Rattle.numbering.proofs.Lists.{fewer, many_one, item_has, item_some, item_none, place_item, place_none, Sorted, sorted_both, sorted_map, sorted_many}

module _ (g : Moves) (laws : ChainLaws g) (N : List Node) (S : Sound N) where
  -- the node at i
  module _ (i : ℕ) (l : i < length N) where
    abbrev x : ℕ
    x = (at N i).x

    abbrev y : ℕ
    y = (at N i).y

    -- its orders leave what is above x
    still : (o : Order) → In g N (suc (suc i)) o → StillAbove o x
    unfolding x_of
    still o m = ((stands g laws N S).leaves (suc (suc i)) (omega arith) o m).0

    -- those of the high part leave x too
    leaves : (o : Order) → In g N (at N i).hi o → (k : ℕ) → x ≤ k → place o k ≡ k
    leaves o m k h =
        let q = S.ok i l in
        ((stands g laws N S).leaves (at N i).hi (omega arith) o m).0 k (omega arith)

    pair : Pair x y
    pair = let q = S.ok i l in (q.y_min, q.y_below, q.x_max)

    pub parts_before : (a b : Order) → In g N (at N i).lo a → In g N (at N i).hi b → Before g a (then b (g x y))
    parts_before a b m w =
        let c = then b (g x y) in
        let back_in : In g N (at N i).hi (back g x y c) = rw (back_move g x y b) w in
        let q = S.ok i l in
        higher_first g laws x a c q.x_max (still a (in_low g N S i l a m)) (still c (in_high g N S i l b w))
        (omega (arith, (low g laws N S i l a m).above, (high g laws N S i l c back_in).reached))

    node_sorted : Sorted g (orders_of g N (at N i).lo) → Sorted g (orders_of g N (at N i).hi) → Sorted g (orders_of g N (suc (suc i)))
    node_sorted s t =
        let q = S.ok i l in
        let lo : (o : Order) → Has (orders_of g N (at N i).lo) o → In g N (at N i).lo o = λ o. ((counted g laws N S (at N i).lo (omega arith)).exact o).0 in
        let hi : (o : Order) → Has (orders_of g N (at N i).hi) o → In g N (at N i).hi o = λ o. ((counted g laws N S (at N i).hi (omega arith)).exact o).0 in
        rw (list_node g laws N S i l)
        (sorted_both g (orders_of g N (at N i).lo) (map (moved g (at N i)) (orders_of g N (at N i).hi)) s
        (sorted_map g (moved g (at N i)) (orders_of g N (at N i).hi) (λ a b h k. moved_before g laws x y pair a b (leaves a (hi a h)) (leaves b (hi b k))) t)
        (λ a b h k.
        let r = map_has (moved g (at N i)) (orders_of g N (at N i).hi) b k in
        subst (Before g a) r.1.1 (parts_before a r.0 (lo a h) (hi r.0 r.1.0))))

  sorted_deep : (b n : ℕ) → n < b → Exists N n → Sorted g (orders_of g N n)
  sorted_deep zero n h e = absurd (omega arith)
  sorted_deep (suc b) zero h e = unfold orders_of fold in tt
  sorted_deep (suc b) (suc zero) h e = unfold orders_of fold in (λ c k. absurd k, tt)
  sorted_deep (suc b) (suc (suc i)) h e =
      let l : i < length N = omega arith in
      let q = S.ok i l in
      node_sorted i l (sorted_deep b (at N i).lo (omega arith) (omega arith)) (sorted_deep b (at N i).hi (omega arith) (omega arith))

  first_at : (n : ℕ) → Exists N n → 2 ≤ n → (a b : Order) → In g N (lo_of N n) a → In g N (hi_of N n) b → Before g a (then b (g (x_of N n) (y_of N n)))
  unfolding x_of y_of lo_of hi_of
  first_at zero e h = absurd (omega arith)
  first_at (suc zero) e h = absurd (omega arith)
  first_at (suc (suc i)) e h = parts_before i (omega arith)

  module _ (n : ℕ) (e : Exists N n) where
    abbrev all : List Order
    all = orders_of g N n

    -- the list has the orders by their numbers
    item_numbered : (k : ℕ) (o : Order) → item all k ≡ Some o → Numbered g N n k o
    item_numbered k o q =
        let c = counted g laws N S n e in
        let m = sorted_many g all (sorted_deep (suc n) n (omega arith) e) c.once k o q in
        record {
          inside = (c.exact o).0 (item_has all k o q);
          before = record {
            list = m.list;
            once = m.once;
            long = m.long;
            exact = λ p. (λ h. let r = (m.exact p).0 h in ((c.exact p).0 r.0, r.1), λ h. (m.exact p).1 ((c.exact p).1 h.0, h.1));
          };
        }

    pub one_number : (o : Order) (k j : ℕ) → Numbered g N n k o → Numbered g N n j o → k ≡ j
    one_number o k j a b = many_one (λ p. In g N n p × Before g p o) k j a.before b.before

    -- with those before it, an order is one more
    more : (k : ℕ) (o : Order) (a : Numbered g N n k o) (m : List Order) → ((p : Order) → (o ≡ p) ⊎ (In g N n p × Before g p o) → Has m p) → k < length m
    more k o a m f =
        let once : Distinct (o ∷ a.before.list) = (λ h. irreflexive g o ((a.before.exact o).0 h).1, a.before.once) in
        omega (arith, a.before.long, fewer (o ∷ a.before.list) m once (λ p h. f p (by p h)))
      where
        by : (p : Order) → (o ≡ p) ⊎ Has a.before.list p → (o ≡ p) ⊎ (In g N n p × Before g p o)
        by p (inl q) = inl q
        by p (inr q) = inr ((a.before.exact p).0 q)

    pub below : (k : ℕ) (o : Order) → Numbered g N n k o → k < count_of N n
    below k o a = omega (arith, c.long, more k o a all at_all)
      where
        c : Counted g N n
        c = counted g laws N S n e

        at_all : (p : Order) → (o ≡ p) ⊎ (In g N n p × Before g p o) → Has all p
        at_all p (inl q) = subst (Has all) q ((c.exact o).1 a.inside)
        at_all p (inr q) = (c.exact p).1 q.0

    earlier : (k : ℕ) (o p : Order) → Numbered g N n k o → Numbered g N n k p → Before g o p → ⊥
    earlier k o p a b h = omega (arith, b.before.long, more k o a b.before.list has)
      where
        has : (q : Order) → (o ≡ q) ⊎ (In g N n q × Before g q o) → Has b.before.list q
        has q (inl r) = subst (Has b.before.list) r ((b.before.exact o).1 (a.inside, h))
        has q (inr r) = (b.before.exact q).1 (r.0, transitive g q o p r.1 h)

    pub one_order : (k : ℕ) (o p : Order) → Numbered g N n k o → Numbered g N n k p → o ≡ p
    one_order k o p a b = by (compare g laws o p)
      where
        by : (o ≡ p) ⊎ ((Before g o p) ⊎ (Before g p o)) → o ≡ p
        by (inl q) = q
        by (inr (inl h)) = absurd (earlier k o p a b h)
        by (inr (inr h)) = absurd (earlier k p o b a h)

    pub listed : (k : ℕ) (o : Order) → (order_at g N n k ≡ Some o) ↔ Numbered g N n k o
    unfolding order_at
    listed k o = (item_numbered k o, into)
      where
        into : Numbered g N n k o → item all k ≡ Some o
        into a =
            let r = item_some all k (omega (arith, (counted g laws N S n e).long, below k o a)) in
            r.1 ∙ ap (λ (p : Order). Some p) (one_order k r.0 o (item_numbered k r.0 r.1) a)

    pub order : (k : ℕ) → k < count_of N n → (o : Order) × Numbered g N n k o
    order k h = let r = item_some all k (omega (arith, (counted g laws N S n e).long)) in (r.0, item_numbered k r.0 r.1)

    pub fetches : (k : ℕ) → Fetched g N n k (order_at g N n k)
    fetches k = by (dec_lt k (count_of N n))
      where
        by : Dec (k < count_of N n) → Fetched g N n k (order_at g N n k)
        by (yes h) = let r = order k h in subst (Fetched g N n k) (sym ((listed k r.0).1 r.1)) r.1
        by (no h) =
            let c = counted g laws N S n e in
            let q : order_at g N n k ≡ None = unfold order_at in item_none all k (omega (arith, c.long)) in
            let w : count_of N n ≤ k = omega arith in
            subst (Fetched g N n k) (sym q) w

    pub placed_by : (o : Order) (r : Option ℕ) → place_of g N n o ≡ r → Placed g N n o r
    unfolding place_of
    placed_by o None q = λ m. place_none all o q (((counted g laws N S n e).exact o).1 m)
    placed_by o (Some k) q = item_numbered k o (place_item all o k q)

    pub places : (o : Order) → Placed g N n o (place_of g N n o)
    places o = placed_by o (place_of g N n o) refl

    -- what is not in the set has no place
    pub no_place : (o : Order) → (In g N n o → ⊥) → place_of g N n o ≡ None
    no_place o absent = by (place_of g N n o) (places o)
      where
        by : (r : Option ℕ) → Placed g N n o r → r ≡ None
        by None h = refl
        by (Some k) h = absurd (absent h.inside)

    pub number : (o : Order) → In g N n o → (k : ℕ) × Numbered g N n k o
    number o m = by (place_of g N n o) (places o)
      where
        by : (r : Option ℕ) → Placed g N n o r → (k : ℕ) × Numbered g N n k o
        by None h = absurd (h m)
        by (Some k) h = (k, h)

    pub placed : (k : ℕ) (o : Order) → (place_of g N n o ≡ Some k) ↔ Numbered g N n k o
    placed k o = (placed_by o (Some k), λ a. by a (place_of g N n o) (places o))
      where
        by : Numbered g N n k o → (r : Option ℕ) → Placed g N n o r → r ≡ Some k
        by a None h = absurd (h a.inside)
        by a (Some j) h = ap (λ (i : ℕ). Some i) (one_number o j k h a)

    low_first : 2 ≤ n → (a b : Order) → In g N (lo_of N n) a → In g N (hi_of N n) b → Before g a (then b (g (x_of N n) (y_of N n)))
    low_first = first_at n e

    pub numbering : Numbering g N n
    numbering = record {
      order = order;
      one_order = one_order;
      number = number;
      one_number = one_number;
      below = below;
      listed = listed;
      placed = placed;
      fetches = fetches;
      places = places;
      low_first = low_first;
    }
