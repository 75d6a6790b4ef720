-- Orders named by their rows, so that examples can be computed. Assumes nothing.
use Rattle.std.specs.Prelude.{◌≡◌, ℕ, zero, suc, ◌-◌, ◌≤◌, Bool, true, false, not, ◌&&◌, ◌||◌, List, ◌==◌, nat_le, slice_index_or, refl}
use Rattle.std.proofs.Common.{subst, sym, arith, eqb-true, leb-true, eq-eqb}
use Rattle.std.proofs.Math.Decide.{ℕ_discrete}
use Rattle.std.proofs.lemmas.Bool.{false≢true}
use Rattle.orders.specs.Orders.{Spreads, sending, standing}
use Rattle.orders.specs.declared.order.Order.{Order}

and_left : (a b : Bool) → a && b ≡ true → a ≡ true
and_left true b e = refl
and_left false b e = e

and_right : (a b : Bool) → a && b ≡ true → b ≡ true
and_right true b e = e
and_right false b e = absurd (false≢true e)

-- the test passes at each number from 1 to n
unfoldable pub each_to : ℕ → (ℕ → Bool) → Bool
each_to zero p = true
each_to (suc n) p = p (suc n) && each_to n p

each_at : (n : ℕ) (p : ℕ → Bool) → each_to n p ≡ true → (k : ℕ) → 1 ≤ k → k ≤ n → p k ≡ true
unfolding each_to
each_at zero p e k l h = absurd (omega arith)
each_at (suc n) p e k l h = elim (ℕ_discrete k (suc n)) [
  | yes same ↦ subst (λ (i : ℕ). p i ≡ true) (sym same) (and_left (p (suc n)) (each_to n p) e)
  | no other ↦ each_at n p (and_right (p (suc n)) (each_to n p) e) k l (omega (arith, other))
]

-- two pieces are the same, or their places differ
abbrev apart : (ℕ → ℕ) → ℕ → ℕ → Bool
apart f k m = k == m || not (f k == f m)

apart_tells : (a b : Bool) → a || not b ≡ true → b ≡ true → a ≡ true
apart_tells true b e t = refl
apart_tells false true e t = e
apart_tells false false e t = t

-- f sends each piece to a place of its own
unfoldable pub spreads : (ℕ → ℕ) → Bool
spreads f = each_to 16 (λ k. nat_le 1 (f k) && (nat_le (f k) 16 && each_to 16 (λ m. (k == m) || not (f k == f m))))

pub spreads_right : (f : ℕ → ℕ) → spreads f ≡ true → Spreads f
unfolding spreads
spreads_right f e = record {
  inside = λ k l h. (leb-true 1 (f k) (low k l h), leb-true (f k) 16 (and_left _ _ (high k l h)));
  apart = λ k m lk hk lm hm same.
      eqb-true k m (apart_tells (k == m) (f k == f m) (each_at 16 (apart f k) (and_right _ _ (high k lk hk)) m lm hm) (eq-eqb (f k) (f m) same));
}
  where
    at : (k : ℕ) → 1 ≤ k → k ≤ 16 → nat_le 1 (f k) && (nat_le (f k) 16 && each_to 16 (apart f k)) ≡ true
    at = each_at 16 (λ k. nat_le 1 (f k) && (nat_le (f k) 16 && each_to 16 (apart f k))) e

    low : (k : ℕ) → 1 ≤ k → k ≤ 16 → nat_le 1 (f k) ≡ true
    low k l h = and_left (nat_le 1 (f k)) (nat_le (f k) 16 && each_to 16 (apart f k)) (at k l h)

    high : (k : ℕ) → 1 ≤ k → k ≤ 16 → nat_le (f k) 16 && each_to 16 (apart f k) ≡ true
    high k l h = and_right (nat_le 1 (f k)) (nat_le (f k) 16 && each_to 16 (apart f k)) (at k l h)

unfoldable pub sending_by : (f : ℕ → ℕ) (b : Bool) → spreads f ≡ b → Order
sending_by f true e = sending f (spreads_right f e)
sending_by f false e = standing

-- the order with this row; pieces beyond the row stand still (and it is the standing order where the row is none)
unfoldable pub order : List ℕ → Order
order row = sending_by (λ k. slice_index_or row (k - 1) k) (spreads (λ k. slice_index_or row (k - 1) k)) refl
