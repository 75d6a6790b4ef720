-- One set, one form. Assumes nothing.
use Prim.{tt}
use Rattle.std.proofs.Common.{◌≡◌, ℕ, ◌<◌, ◌≤◌, true, ◌⊎◌, sym, refl, ap, ◌∙◌, inl, inr, arith}
use mathlib.Core.Bool.{false≢true}
use native.Mathlib.Decide.{dec_lt}
use Rattle.orders.specs.declared.order.Order.{Order}
use Rattle.orders.specs.Orders.{place, standing, then, place-standing}
use Rattle.orders.specs.Chains.{ChainLaws}
use Rattle.diagrams.specs.Moves.{Moves, back}
use Rattle.diagrams.proofs.Bools.{or_split, or_left, or_right, both_ways}
use Rattle.diagrams.proofs.Places.{Upto, Low, High, low_from, high_from}
use Rattle.diagrams.proofs.Groups.{same_refl, same_sound, back_move}
use Rattle.forms.specs.Forms.{Form, none, one, branch, top_x, top_y, Some, Fits, Well, has}

module _ (g : Moves) (laws : ChainLaws g) where
  abbrev Has : Form → Order → Type 0
  Has f o = has g f o ≡ true

  -- every order of a form leaves the pieces above the top's x, and sends x no lower than y
  upto : (f : Form) → Well f → (o : Order) → Has f o → Upto (top_x f) (top_y f) o
  upto none w o m = absurd (false≢true m)
  upto one w o m =
      let is = same_sound o standing m in
      record { still = λ k _ _. rw is (place-standing k); least = omega arith }
  upto (branch x y lo hi) w o m = by w.0 (upto lo w.1.0 o) (upto hi w.1.1 (back g x y o)) (or_split _ _ m)
    where
      by : Fits x y lo hi → (Has lo o → Upto (top_x lo) (top_y lo) o) → (Has hi (back g x y o) → Upto (top_x hi) (top_y hi) (back g x y o)) →
          (Has lo o) ⊎ (Has hi (back g x y o)) → Upto x y o
      by k a b (inl i) =
          let t = low_from x y _ _ o k.x_max k.y_below k.lo_under (a i) in
          record { still = t.still; least = omega (arith, t.above) }
      by k a b (inr i) =
          let t = high_from g laws x y _ _ o k.x_max k.y_below k.y_min k.hi_under (b i) in
          record { still = t.still; least = omega (arith, t.reached) }

  low : (x y : ℕ) (lo hi : Form) → Well (branch x y lo hi) → (o : Order) → Has lo o → Low x y o
  low x y lo hi w o m =
      let k = w.0 in
      low_from x y _ _ o k.x_max k.y_below k.lo_under (upto lo w.1.0 o m)

  high : (x y : ℕ) (lo hi : Form) → Well (branch x y lo hi) → (o : Order) → Has hi (back g x y o) → High x y o
  high x y lo hi w o m =
      let k = w.0 in
      high_from g laws x y _ _ o k.x_max k.y_below k.y_min k.hi_under (upto hi w.1.1 (back g x y o) m)

  in_high : (x y : ℕ) (lo hi : Form) (p : Order) → Has hi p → Has (branch x y lo hi) (then p (g x y))
  in_high x y lo hi p m =
      let q : Has hi (back g x y (then p (g x y))) = rw (back_move g x y p) m in
      or_right _ _ q

  -- every form but the empty one has an order
  some : (f : Form) → Well f → Some f → (o : Order) × Has f o
  some none w s = absurd s
  some one w s = (standing, same_refl standing)
  some (branch x y lo hi) w s =
      let r = some hi w.1.1 w.0.hi_some in
      (then r.0 (g x y), in_high x y lo hi r.0 r.1)

  -- and a node one that its x and y tell
  tells : (x y : ℕ) (lo hi : Form) → Well (branch x y lo hi) → (o : Order) × (Has (branch x y lo hi) o × (place o x ≡ y))
  tells x y lo hi w =
      let r = some hi w.1.1 w.0.hi_some in
      (then r.0 (g x y), (in_high x y lo hi r.0 r.1, (high x y lo hi w _ (rw (back_move g x y r.0) r.1)).reached))

  -- a set that has all of a node's orders has a top that is no lower
  not_lower : (x y : ℕ) (lo hi f : Form) → Well (branch x y lo hi) → Well f → ((o : Order) → Has (branch x y lo hi) o → Has f o) →
      (x < top_x f) ⊎ ((x ≡ top_x f) × (top_y f ≤ y))
  not_lower x y lo hi f w v h = by w.0 (dec_lt x (top_x f)) (dec_lt (top_x f) x)
    where
      r : (o : Order) × (Has (branch x y lo hi) o × (place o x ≡ y))
      r = tells x y lo hi w

      t : Upto (top_x f) (top_y f) r.0
      t = upto f v r.0 (h r.0 r.1.0)

      by : Fits x y lo hi → Dec (x < top_x f) → Dec (top_x f < x) → (x < top_x f) ⊎ ((x ≡ top_x f) × (top_y f ≤ y))
      by k (yes l) d = inl l
      by k (no l) (yes q) = absurd (omega (arith, t.still x q k.x_max, r.1.1))
      by k (no l) (no q) =
          let p : x ≡ top_x f = omega arith in
          inr (p, omega (arith, t.least, r.1.1, ap (place r.0) p))

  not_one : (x y : ℕ) (lo hi : Form) → Well (branch x y lo hi) → ((o : Order) → Has (branch x y lo hi) o → Has one o) → ⊥
  not_one x y lo hi w h = by w.0 (not_lower x y lo hi one w tt h)
    where
      by : Fits x y lo hi → (x < 0) ⊎ ((x ≡ 0) × (0 ≤ y)) → ⊥
      by k (inl a) = omega arith
      by k (inr a) = omega arith

  module _ (x y : ℕ) (lo hi : Form) (u v : ℕ) (low' hi' : Form) (w : Well (branch x y lo hi)) (z : Well (branch u v low' hi'))
      (f : (o : Order) → has g (branch x y lo hi) o ≡ has g (branch u v low' hi') o) where
    -- two nodes of one set have one top
    one_top : (x ≡ u) × (y ≡ v)
    one_top = by (not_lower x y lo hi (branch u v low' hi') w z (λ o m. sym (f o) ∙ m)) (not_lower u v low' hi' (branch x y lo hi) z w (λ o m. f o ∙ m))
      where
        by : (x < u) ⊎ ((x ≡ u) × (v ≤ y)) → (u < x) ⊎ ((u ≡ x) × (y ≤ v)) → (x ≡ u) × (y ≡ v)
        by (inl a) (inl b) = omega arith
        by (inl a) (inr b) = omega arith
        by (inr a) (inl b) = omega arith
        by (inr a) (inr b) = omega arith

    lows : (o : Order) → Has lo o → Has low' o
    lows o m = by (or_split _ _ (sym (f o) ∙ or_left _ _ m))
      where
        by : (Has low' o) ⊎ (Has hi' (back g u v o)) → Has low' o
        by (inl a) = a
        by (inr a) = absurd (omega (arith, (low x y lo hi w o m).above, (high u v low' hi' z o a).reached, ap (place o) one_top.0, one_top.1))

    highs : (p : Order) → Has hi p → Has hi' p
    highs p m = by (or_split _ _ (sym (f o) ∙ in_high x y lo hi p m))
      where
        o : Order
        o = then p (g x y)

        by : (Has low' o) ⊎ (Has hi' (back g u v o)) → Has hi' p
        by (inl a) =
            let r = high x y lo hi w o (rw (back_move g x y p) m) in
            absurd (omega (arith, (low u v low' hi' z o a).above, r.reached, ap (place o) one_top.0, one_top.1))
        by (inr a) = rw (← one_top.0, ← one_top.1, back_move g) at a

  -- two forms with one set are one form
  pub canon : (f k : Form) → Well f → Well k → ((o : Order) → has g f o ≡ has g k o) → f ≡ k
  canon none none w z h = refl
  canon none one w z h = absurd (false≢true (h (standing) ∙ same_refl standing))
  canon none (branch u v b d) w z h =
      let r = some (branch u v b d) z tt in
      absurd (false≢true (h r.0 ∙ r.1))
  canon one none w z h = absurd (false≢true (sym (h (standing)) ∙ same_refl standing))
  canon one one w z h = refl
  canon one (branch u v b d) w z h = absurd (not_one u v b d z (λ o m. h o ∙ m))
  canon (branch x y a c) none w z h =
      let r = some (branch x y a c) w tt in
      absurd (false≢true (sym (h r.0) ∙ r.1))
  canon (branch x y a c) one w z h = absurd (not_one x y a c w (λ o m. sym (h o) ∙ m))
  canon (branch x y a c) (branch u v b d) w z h =
      let back_h = λ (o : Order). sym (h o) in
      let t = one_top x y a c u v b d w z h in
      let p = canon a b w.1.0 z.1.0 (λ o. both_ways _ _ (lows x y a c u v b d w z h o) (lows u v b d x y a c z w back_h o)) in
      let q = canon c d w.1.1 z.1.1 (λ o. both_ways _ _ (highs x y a c u v b d w z h o) (highs u v b d x y a c z w back_h o)) in
      cc (t.0, t.1)
