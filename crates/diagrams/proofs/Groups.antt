-- Laws of orders, in the forms that sets of orders use. Assumes nothing.
use Rattle.std.proofs.Common.{◌≡◌, ℕ, ◌≤◌, true, sym, refl, ap, ◌∙◌, eq-eqb, eqb-true}
use Rattle.orders.specs.declared.order.Order.{Order}
use Rattle.orders.specs.Orders.{place, then, inverse, place_piece, code_tells, inverse-place}
use Rattle.orders.specs.Group.{group}
use Rattle.diagrams.specs.Moves.{Moves, same, back}

pub same_refl : (a : Order) → same a a ≡ true
same_refl a = eq-eqb a.code a.code refl

pub same_sound : (a b : Order) → same a b ≡ true → a ≡ b
same_sound a b e = code_tells a b (eqb-true a.code b.code e)

pub place_min : (a : Order) (k : ℕ) → 1 ≤ k → k ≤ 16 → 1 ≤ place a k
place_min a k l h = (place_piece a k l h).0

pub place_max : (a : Order) (k : ℕ) → 1 ≤ k → k ≤ 16 → place a k ≤ 16
place_max a k l h = (place_piece a k l h).1

-- where the inverse sends a place that is reached
pub place_back : (a : Order) (j k : ℕ) → place a j ≡ k → place (inverse a) k ≡ j
place_back a j k e = ap (place (inverse a)) (sym e) ∙ inverse-place a j

pub redo : (a b : Order) → then (then a (inverse b)) b ≡ a
redo a b = simp group

module _ (g : Moves) where
  pub back_move : (x y : ℕ) (o : Order) → back g x y (then o (g x y)) ≡ o
  back_move x y o = simp group

  pub move_back : (x y : ℕ) (o : Order) → then (back g x y o) (g x y) ≡ o
  move_back x y o = simp group

  -- a move taken off both
  pub back_both : (x y : ℕ) (o h : Order) → then (back g x y o) (inverse (back g x y h)) ≡ then o (inverse h)
  back_both x y o h = simp group

  pub back_carried : (x y : ℕ) (o h : Order) → back g x y (then o (inverse h)) ≡ then o (inverse (then (g x y) h))
  back_carried x y o h = simp group
