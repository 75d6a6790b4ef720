-- One set, one number. Assumes nothing.
use Rattle.std.proofs.Common.{◌≡◌, ℕ, zero, suc, ◌+◌, ◌<◌, ◌≤◌, ◌⊎◌, List, length, sym, refl, ap, ◌∙◌, inl, inr, arith}
use mathlib.Core.Bool.{false≢true}
use native.Mathlib.Decide.{dec_lt}
use Rattle.orders.specs.declared.order.Order.{Order}
use Rattle.orders.specs.Orders.{place, standing, then}
use Rattle.orders.specs.Chains.{ChainLaws}
use Rattle.diagrams.specs.declared.Node.{Node}
use Rattle.diagrams.specs.Moves.{Moves, back}
use Rattle.diagrams.specs.Table.{at, Exists, x_of, y_of, Sound, NodeOk, mem, In}
use Rattle.diagrams.proofs.Folds.{mem_zero, mem_one, mem_node}
use Rattle.diagrams.proofs.Places.{Upto, upto, low, high}
use Rattle.diagrams.proofs.Bools.{or_split, or_left, or_right, both_ways}
use Rattle.diagrams.proofs.Groups.{same_refl, back_move}

module _ (g : Moves) (N : List Node) (S : Sound N) where
  pub in_low : (i : ℕ) → i < length N → (o : Order) → In g N (at N i).lo o → In g N (suc (suc i)) o
  in_low i l o m = mem_node g N S i l o ∙ or_left _ _ m

  pub in_high : (i : ℕ) → i < length N → (p : Order) → In g N (at N i).hi p → In g N (suc (suc i)) (then p (g (at N i).x (at N i).y))
  in_high i l p m =
      let o = then p (g (at N i).x (at N i).y) in
      let q : In g N (at N i).hi (back g (at N i).x (at N i).y o) = rw (back_move g (at N i).x (at N i).y p) m in
      mem_node g N S i l o ∙ or_right _ _ q

  pub in_parts : (i : ℕ) → i < length N → (o : Order) → In g N (suc (suc i)) o →
      (In g N (at N i).lo o) ⊎ (In g N (at N i).hi (back g (at N i).x (at N i).y o))
  in_parts i l o m = or_split _ _ (sym (mem_node g N S i l o) ∙ m)

  some_deep : (b n : ℕ) → n < b → Exists N n → 1 ≤ n → (o : Order) × In g N n o
  some_deep zero n h e p = absurd (omega arith)
  some_deep (suc b) zero h e p = absurd (omega arith)
  some_deep (suc b) (suc zero) h e p = (standing, mem_one g N standing ∙ same_refl standing)
  some_deep (suc b) (suc (suc i)) h e p =
      let l : i < length N = omega arith in
      let k = S.ok i l in
      let r = some_deep b (at N i).hi (omega arith) (omega arith) k.hi_some in
      (then r.0 (g (at N i).x (at N i).y), in_high i l r.0 r.1)

  -- every number but 0 has an order in its set
  pub some : (n : ℕ) → Exists N n → 1 ≤ n → (o : Order) × In g N n o
  some n e p = some_deep (suc n) n (omega arith) e p

module _ (g : Moves) (laws : ChainLaws g) (N : List Node) (S : Sound N) where
  -- and a node one that its x and y tell
  pub tells : (i : ℕ) → i < length N → (o : Order) × (In g N (suc (suc i)) o × (place o (at N i).x ≡ (at N i).y))
  tells i l =
      let k = S.ok i l in
      let r = some g N S (at N i).hi (omega arith) k.hi_some in
      let x = (at N i).x in
      let y = (at N i).y in
      (then r.0 (g x y), (in_high g N S i l r.0 r.1, (high g laws N S i l _ (rw (back_move g x y r.0) r.1)).reached))

  -- a set that has all of a node's orders has a top that is no lower
  not_lower : (i n : ℕ) → i < length N → Exists N n → ((o : Order) → In g N (suc (suc i)) o → In g N n o) →
      ((at N i).x < x_of N n) ⊎ (((at N i).x ≡ x_of N n) × (y_of N n ≤ (at N i).y))
  not_lower i n l e f = by (dec_lt (at N i).x (x_of N n)) (dec_lt (x_of N n) (at N i).x)
    where
      r : (o : Order) × (In g N (suc (suc i)) o × (place o (at N i).x ≡ (at N i).y))
      r = tells i l

      t : Upto (x_of N n) (y_of N n) r.0
      t = upto g laws N S n e r.0 (f r.0 r.1.0)

      by : Dec ((at N i).x < x_of N n) → Dec (x_of N n < (at N i).x) → ((at N i).x < x_of N n) ⊎ (((at N i).x ≡ x_of N n) × (y_of N n ≤ (at N i).y))
      by (yes h) d = inl h
      by (no h) (yes q) =
          let k = S.ok i l in
          absurd (omega (arith, t.still (at N i).x q k.x_max, r.1.1))
      by (no h) (no q) =
          let p : (at N i).x ≡ x_of N n = omega arith in
          inr (p, omega (arith, t.least, r.1.1, ap (place r.0) p))

  -- two nodes of one set have one top
  one_top : (i j : ℕ) → i < length N → j < length N → ((o : Order) → mem g N (suc (suc i)) o ≡ mem g N (suc (suc j)) o) →
      ((at N i).x ≡ (at N j).x) × ((at N i).y ≡ (at N j).y)
  unfolding x_of y_of
  one_top i j l q f = by (not_lower i (suc (suc j)) l (omega arith) (λ o m. sym (f o) ∙ m)) (not_lower j (suc (suc i)) q (omega arith) (λ o m. f o ∙ m))
    where
      by : ((at N i).x < (at N j).x) ⊎ (((at N i).x ≡ (at N j).x) × ((at N j).y ≤ (at N i).y)) →
          ((at N j).x < (at N i).x) ⊎ (((at N j).x ≡ (at N i).x) × ((at N i).y ≤ (at N j).y)) → ((at N i).x ≡ (at N j).x) × ((at N i).y ≡ (at N j).y)
      by (inl a) (inl b) = omega arith
      by (inl a) (inr b) = omega arith
      by (inr a) (inl b) = omega arith
      by (inr a) (inr b) = omega arith

  lows : (i j : ℕ) → i < length N → j < length N → ((o : Order) → mem g N (suc (suc i)) o ≡ mem g N (suc (suc j)) o) →
      (o : Order) → In g N (at N i).lo o → In g N (at N j).lo o
  lows i j l q f o m = by (in_parts g N S j q o (sym (f o) ∙ in_low g N S i l o m))
    where
      by : (In g N (at N j).lo o) ⊎ (In g N (at N j).hi (back g (at N j).x (at N j).y o)) → In g N (at N j).lo o
      by (inl a) = a
      by (inr a) =
          let t = one_top i j l q f in
          absurd (omega (arith, (low g laws N S i l o m).above, (high g laws N S j q o a).reached, ap (place o) t.0))

  highs : (i j : ℕ) → i < length N → j < length N → ((o : Order) → mem g N (suc (suc i)) o ≡ mem g N (suc (suc j)) o) →
      (p : Order) → In g N (at N i).hi p → In g N (at N j).hi p
  highs i j l q f p m = by (in_parts g N S j q o (sym (f o) ∙ in_high g N S i l p m))
    where
      o : Order
      o = then p (g (at N i).x (at N i).y)

      t : ((at N i).x ≡ (at N j).x) × ((at N i).y ≡ (at N j).y)
      t = one_top i j l q f

      by : (In g N (at N j).lo o) ⊎ (In g N (at N j).hi (back g (at N j).x (at N j).y o)) → In g N (at N j).hi p
      by (inl a) =
          let r = high g laws N S i l o (rw (back_move g (at N i).x (at N i).y p) m) in
          absurd (omega (arith, (low g laws N S j q o a).above, r.reached, ap (place o) t.0, t.1))
      by (inr a) = rw (← t.0, ← t.1, back_move g) at a

  -- a node has more than the neutral order
  not_one : (i : ℕ) → i < length N → ((o : Order) → In g N (suc (suc i)) o → In g N 1 o) → ⊥
  unfolding x_of y_of
  not_one i l f = by (S.ok i l) (not_lower i 1 l (omega arith) f)
    where
      by : NodeOk N i (at N i) → ((at N i).x < 0) ⊎ (((at N i).x ≡ 0) × (0 ≤ (at N i).y)) → ⊥
      by k (inl a) = omega arith
      by k (inr a) = omega arith

  canon_deep : (b n m : ℕ) → n < b → m < b → Exists N n → Exists N m → ((o : Order) → mem g N n o ≡ mem g N m o) → n ≡ m
  canon_deep zero n m hn hm en em f = absurd (omega arith)
  canon_deep (suc b) zero zero hn hm en em f = refl
  canon_deep (suc b) zero (suc m) hn hm en em f =
      let r = some g N S (suc m) em (omega arith) in
      absurd (false≢true (sym (mem_zero g N r.0) ∙ f r.0 ∙ r.1))
  canon_deep (suc b) (suc n) zero hn hm en em f =
      let r = some g N S (suc n) en (omega arith) in
      absurd (false≢true (sym (mem_zero g N r.0) ∙ sym (f r.0) ∙ r.1))
  canon_deep (suc b) (suc zero) (suc zero) hn hm en em f = refl
  canon_deep (suc b) (suc zero) (suc (suc j)) hn hm en em f = absurd (not_one j (omega arith) (λ o m. f o ∙ m))
  canon_deep (suc b) (suc (suc i)) (suc zero) hn hm en em f = absurd (not_one i (omega arith) (λ o m. sym (f o) ∙ m))
  canon_deep (suc b) (suc (suc i)) (suc (suc j)) hn hm en em f =
      let l : i < length N = omega arith in
      let q : j < length N = omega arith in
      let t = one_top i j l q f in
      let k = S.ok i l in
      let c = S.ok j q in
      let back_f = λ (o : Order). sym (f o) in
      ap (λ (a : ℕ). suc (suc a)) (S.apart i j l q record {
        same_x = t.0;
        same_y = t.1;
        same_lo = canon_deep b (at N i).lo (at N j).lo (omega arith) (omega arith) (omega arith) (omega arith)
            (λ o. both_ways _ _ (lows i j l q f o) (lows j i q l back_f o));
        same_hi = canon_deep b (at N i).hi (at N j).hi (omega arith) (omega arith) (omega arith) (omega arith)
            (λ o. both_ways _ _ (highs i j l q f o) (highs j i q l back_f o));
      })

  -- two numbers with one set are one number
  pub canon : (n m : ℕ) → Exists N n → Exists N m → ((o : Order) → mem g N n o ≡ mem g N m o) → n ≡ m
  canon n m en em f = canon_deep (suc (n + m)) n m (omega arith) (omega arith) en em f
