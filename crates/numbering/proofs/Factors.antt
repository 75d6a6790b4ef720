-- The factors of orders that leave the pieces above some x, and the order that factors put orders in. Assumes nothing.
use Rattle.std.proofs.Common.{◌≡◌, ℕ, zero, suc, ◌+◌, ◌-◌, ◌<◌, ◌≤◌, ◌⊎◌, sym, refl, ap, ◌∙◌, inl, inr, arith}
use native.Mathlib.Decide.{dec_lt, ℕ_discrete}
use Rattle.orders.specs.declared.order.Order.{Order}
use Rattle.orders.specs.Orders.{place, then, inverse, place-then, place_out}
use Rattle.orders.specs.Chains.{Pair, ChainLaws}
use Rattle.orders.specs.Factors.{step_at, remains, remains_start, remains_down, factor_at, factor_is, StillAbove, step_none, factors-product}
use Rattle.diagrams.specs.Moves.{Moves}
use Rattle.diagrams.proofs.Groups.{back_move}
use Rattle.numbering.specs.Before.{Before}

module _ (g : Moves) where
  down : (a : Order) (n : ℕ) → n < 16 → remains g a n ≡ step_at g (remains g a (suc n)) (suc n)
  down a n h = let e : suc n - 1 ≡ n = omega arith in rw e at (remains_down g a (suc n) (omega arith) (omega arith))

  -- what is left of two orders is the same from where it is the same
  remains_same : (a b : Order) (d n : ℕ) → n + d ≤ 16 → remains g a (n + d) ≡ remains g b (n + d) → remains g a n ≡ remains g b n
  remains_same a b zero n h e = let z : n + 0 ≡ n = omega arith in rw z at e
  remains_same a b (suc d) n h e =
      let z : n + suc d ≡ suc n + d = omega arith in
      down a n (omega arith) ∙ ap (λ (r : Order). step_at g r (suc n)) (remains_same a b d (suc n) (omega arith) (rw z at e)) ∙ sym (down b n (omega arith))

  -- what is no piece has itself for a factor
  factor_out : (a : Order) (z : ℕ) → 16 < z → factor_at g a z ≡ z
  factor_out a z l = factor_is g a z ∙ place_out _ z l

  module _ (laws : ChainLaws g) where
    module _ (a : Order) (x : ℕ) (still : StillAbove a x) where
      left_whole : (d n : ℕ) → n + d ≡ 16 → x ≤ n → remains g a n ≡ a
      left_whole zero n e l = let z : n ≡ 16 = omega arith in rw z (remains_start g a)
      left_whole (suc d) n e l =
          down a n (omega arith) ∙ ap (λ (r : Order). step_at g r (suc n)) (left_whole d (suc n) (omega arith) (omega arith))
          ∙ step_none g laws a (suc n) (omega (arith, still (suc n) (omega arith)))

      -- nothing is taken out of it above x
      pub whole : (n : ℕ) → n ≤ 16 → x ≤ n → remains g a n ≡ a
      whole n h l = left_whole (16 - n) n (omega arith) l

      pub factor_placed : (z : ℕ) → z ≤ 16 → x ≤ z → factor_at g a z ≡ place a z
      factor_placed z h l = factor_is g a z ∙ ap (λ (o : Order). place o z) (whole z h l)

      pub factor_above : (z : ℕ) → x < z → factor_at g a z ≡ z
      factor_above z l = by (dec_lt 16 z)
        where
          by : Dec (16 < z) → factor_at g a z ≡ z
          by (yes h) = factor_out a z h
          by (no h) = factor_placed z (omega arith) (omega arith) ∙ still z l

    -- of two orders that leave what is above x, the one that takes x higher comes first
    pub higher_first : (x : ℕ) (a b : Order) → x ≤ 16 → StillAbove a x → StillAbove b x → place b x < place a x → Before g a b
    higher_first x a b h sa sb l = record {
      x = x;
      above = λ z q. factor_above a x sa z q ∙ sym (factor_above b x sb z q);
      greater = omega (arith, factor_placed a x sa x h (omega arith), factor_placed b x sb x h (omega arith));
    }

    -- an order that leaves x and above, followed by the move of x and y
    module _ (x y : ℕ) (pair : Pair x y) where
      abbrev Leaves : Order → Type 0
      Leaves a = (k : ℕ) → x ≤ k → place a k ≡ k

      abbrev moved : Order → Order
      moved a = then a (g x y)

      module _ (a : Order) (leaves : Leaves a) where
        moved_still : StillAbove (moved a) x
        moved_still k l = place-then a (g x y) k ∙ ap (place (g x y)) (leaves k (omega arith)) ∙ laws.still x y k l

        moved_at : place (moved a) x ≡ y
        moved_at = place-then a (g x y) x ∙ ap (place (g x y)) (leaves x (omega arith)) ∙ laws.goes x y pair

        -- the move is the factor at x, and the rest is the order itself
        moved_rest : remains g (moved a) (x - 1) ≡ remains g a (x - 1)
        unfolding step_at
        moved_rest =
            remains_down g (moved a) x (omega (arith, pair)) (omega (arith, pair))
            ∙ ap (λ (r : Order). step_at g r x) (whole (moved a) x moved_still x (omega (arith, pair)) (omega arith))
            ∙ ap (λ (z : ℕ). then (moved a) (inverse (g x z))) moved_at ∙ back_move g x y a
            ∙ sym (whole a (x - 1) (λ k l. leaves k (omega arith)) (x - 1) (omega (arith, pair)) (omega arith))

        factor_below : (z : ℕ) → z < x → factor_at g (moved a) z ≡ factor_at g a z
        factor_below z l =
            let d : z + (x - 1 - z) ≡ x - 1 = omega arith in
            factor_is g (moved a) z
            ∙ ap (λ (o : Order). place o z) (remains_same (moved a) a (x - 1 - z) z (omega (arith, pair)) (rw d moved_rest))
            ∙ sym (factor_is g a z)

      module _ (a b : Order) (la : Leaves a) (lb : Leaves b) where
        same_top : (z : ℕ) → x ≤ z → factor_at g (moved a) z ≡ factor_at g (moved b) z
        same_top z l = by (ℕ_discrete z x)
          where
            by : Dec (z ≡ x) → factor_at g (moved a) z ≡ factor_at g (moved b) z
            by (yes e) =
                let h : x ≤ 16 = omega (arith, pair) in
                rw e (factor_placed (moved a) x (moved_still a la) x h (omega arith) ∙ moved_at a la ∙ sym (moved_at b lb) ∙ sym (factor_placed (moved b) x (moved_still b lb) x h (omega arith)))
            by (no e) = factor_above (moved a) x (moved_still a la) z (omega arith) ∙ sym (factor_above (moved b) x (moved_still b lb) z (omega arith))

        -- they come in the same order as before the move
        pub moved_before : Before g a b → Before g (moved a) (moved b)
        moved_before h = by (dec_lt h.x x)
          where
            at : (z : ℕ) → h.x < z → Dec (z < x) → factor_at g (moved a) z ≡ factor_at g (moved b) z
            at z q (yes l) = factor_below a la z l ∙ h.above z q ∙ sym (factor_below b lb z l)
            at z q (no l) = same_top z (omega arith)

            by : Dec (h.x < x) → Before g (moved a) (moved b)
            by (yes l) = record {
              x = h.x;
              above = λ z q. at z q (dec_lt z x);
              greater = omega (arith, h.greater, factor_below a la h.x l, factor_below b lb h.x l);
            }
            by (no l) =
                let fa = factor_above a (x - 1) (λ k q. la k (omega arith)) h.x (omega (arith, pair)) in
                let fb = factor_above b (x - 1) (λ k q. lb k (omega arith)) h.x (omega (arith, pair)) in
                absurd (omega (arith, h.greater, fa, fb))

  pub irreflexive : (a : Order) → Before g a a → ⊥
  irreflexive a h = omega (arith, h.greater)

  pub transitive : (a b c : Order) → Before g a b → Before g b c → Before g a c
  transitive a b c h k = by (dec_lt h.x k.x) (dec_lt k.x h.x)
    where
      by : Dec (h.x < k.x) → Dec (k.x < h.x) → Before g a c
      by (yes l) d = record { x = k.x; above = λ z q. h.above z (omega arith) ∙ k.above z q; greater = omega (arith, k.greater, h.above k.x l) }
      by (no l) (yes q) = record { x = h.x; above = λ z r. h.above z r ∙ k.above z (omega arith); greater = omega (arith, h.greater, k.above h.x q) }
      by (no l) (no q) =
          let e : h.x ≡ k.x = omega arith in
          record { x = h.x; above = λ z r. h.above z r ∙ k.above z (omega arith); greater = omega (arith, h.greater, k.greater, ap (factor_at g b) e, ap (factor_at g c) e) }

  module _ (laws : ChainLaws g) (a b : Order) where
    abbrev Compared : Type 0
    Compared = (a ≡ b) ⊎ ((Before g a b) ⊎ (Before g b a))

    compare_to : (d : ℕ) → ((z : ℕ) → d < z → factor_at g a z ≡ factor_at g b z) → Compared
    compare_to zero same = inl (sym (factors-product g laws a (factor_at g a) (λ x _ _. refl)) ∙ factors-product g laws b (factor_at g a) (λ x l _. same x l))
    compare_to (suc d) same =
        at (dec_lt (factor_at g b (suc d)) (factor_at g a (suc d))) (dec_lt (factor_at g a (suc d)) (factor_at g b (suc d))) (compare_to d)
      where
        at : Dec (factor_at g b (suc d) < factor_at g a (suc d)) → Dec (factor_at g a (suc d) < factor_at g b (suc d))
            → (((z : ℕ) → d < z → factor_at g a z ≡ factor_at g b z) → Compared) → Compared
        at (yes l) e rest = inr (inl record { x = suc d; above = same; greater = l })
        at (no l) (yes q) rest = inr (inr record { x = suc d; above = λ z r. sym (same z r); greater = q })
        at (no l) (no q) rest = rest (λ z r. here z r (ℕ_discrete z (suc d)))
          where
            here : (z : ℕ) → d < z → Dec (z ≡ suc d) → factor_at g a z ≡ factor_at g b z
            here z r (yes e) = let h : factor_at g a (suc d) ≡ factor_at g b (suc d) = omega arith in rw e h
            here z r (no e) = same z (omega arith)

    -- two orders are one, or one comes before the other
    pub compare : Compared
    compare = compare_to 16 (λ z l. factor_out a z l ∙ sym (factor_out b z l))

    pub total : (a ≡ b → ⊥) → (Before g a b) ⊎ (Before g b a)
    total ne = by compare
      where
        by : Compared → (Before g a b) ⊎ (Before g b a)
        by (inl e) = absurd (ne e)
        by (inr h) = h
