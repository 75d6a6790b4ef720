-- The sets of numbers, in words of orders. Assumes nothing.
use Rattle.std.proofs.Common.{◌≡◌, ℕ, ◌<◌, ◌≤◌, true, ◌||◌, ◌⊎◌, ◌↔◌, List, sym, ap, ◌∙◌, inl, inr, arith}
use mathlib.Core.Bool.{false≢true}
use native.Mathlib.Decide.{dec_lt}
use Rattle.orders.specs.declared.order.Order.{Order}
use Rattle.orders.specs.Orders.{place, standing, then, place_out}
use Rattle.orders.specs.Chains.{ChainLaws}
use Rattle.diagrams.specs.declared.Node.{Node}
use Rattle.diagrams.specs.Moves.{Moves, back}
use Rattle.diagrams.specs.Table.{Exists, x_of, y_of, lo_of, hi_of, Sound, Extends, mem, In}
use Rattle.diagrams.specs.Theorems.{Stands}
use Rattle.diagrams.proofs.Folds.{mem_zero, mem_one, mem_more}
use Rattle.diagrams.proofs.Places.{upto}
use Rattle.diagrams.proofs.Canon.{some, canon}
use Rattle.diagrams.proofs.Bools.{or_split, or_left, or_right, both_ways}
use Rattle.diagrams.proofs.Groups.{same_refl, same_sound, back_move, move_back}
use Rattle.diagrams.proofs.Tops.{mem_parts, low_if_level, high_at}
use Rattle.diagrams.proofs.Numbers.{parts}

module _ (g : Moves) (N : List Node) where
  pub in_none : (o : Order) → In g N 0 o → ⊥
  in_none o i = false≢true (sym (mem_zero g N o) ∙ i)

  pub in_one : (o : Order) → In g N 1 o ↔ (o ≡ standing)
  in_one o = (λ i. same_sound o standing (sym (mem_one g N o) ∙ i), λ e. mem_one g N o ∙ (rw e (same_refl standing)))

  module _ (S : Sound N) where
    module _ (n : ℕ) (e : Exists N n) (h : 2 ≤ n) (o : Order) where
      abbrev Moved : Type 0
      Moved = (α : Order) × (In g N (hi_of N n) α × (o ≡ then α (g (x_of N n) (y_of N n))))

      out : (In g N (lo_of N n) o) ⊎ (In g N (hi_of N n) (back g (x_of N n) (y_of N n) o)) → (In g N (lo_of N n) o) ⊎ Moved
      out (inl i) = inl i
      out (inr i) = inr (back g (x_of N n) (y_of N n) o, (i, sym (move_back g (x_of N n) (y_of N n) o)))

      into : (In g N (lo_of N n) o) ⊎ Moved → (mem g N (lo_of N n) o || mem g N (hi_of N n) (back g (x_of N n) (y_of N n) o)) ≡ true
      into (inl i) = or_left _ _ i
      into (inr r) = or_right _ _ (ap (mem g N (hi_of N n)) (ap (back g (x_of N n) (y_of N n)) r.1.1 ∙ back_move g (x_of N n) (y_of N n) r.0) ∙ r.1.0)

      pub in_node : In g N n o ↔ ((In g N (lo_of N n) o) ⊎ Moved)
      in_node = (λ i. out (or_split _ _ (sym (mem_parts g N S n e h o) ∙ i)), λ w. mem_parts g N S n e h o ∙ into w)

    pub in_more : (M : List Node) → Extends N M → (n : ℕ) → Exists N n → (o : Order) → In g M n o ↔ In g N n o
    in_more M X n e o = (λ i. sym (mem_more g N M S X n e o) ∙ i, λ i. mem_more g N M S X n e o ∙ i)

module _ (g : Moves) (laws : ChainLaws g) (N : List Node) (S : Sound N) where
  apart : (n : ℕ) → Exists N n → 2 ≤ n → (α β : Order) → In g N (lo_of N n) α → In g N (hi_of N n) β → α ≡ then β (g (x_of N n) (y_of N n)) → ⊥
  apart n e h α β i j q =
      let p = parts N S n e h in
      let from : back g (x_of N n) (y_of N n) α ≡ β = ap (back g (x_of N n) (y_of N n)) q ∙ back_move g (x_of N n) (y_of N n) β in
      let low = low_if_level g laws N S (x_of N n) (y_of N n) (lo_of N n) (omega arith) p.x_max p.y_min p.y_below p.lo_level α i in
      let high = high_at g laws N S n e h α (ap (mem g N (hi_of N n)) from ∙ j) in
      omega (arith, low.above, high.reached)

  leaves : (n : ℕ) → Exists N n → (o : Order) → In g N n o → ((k : ℕ) → x_of N n < k → place o k ≡ k) × (y_of N n ≤ place o (x_of N n))
  leaves n e o i = (λ k l. by k l (dec_lt 16 k), (upto g laws N S n e o i).least)
    where
      by : (k : ℕ) → x_of N n < k → Dec (16 < k) → place o k ≡ k
      by k l (yes q) = place_out o k q
      by k l (no q) = (upto g laws N S n e o i).still k l (omega arith)

  pub stands : Stands g N
  stands = record {
    none = in_none g N;
    one = in_one g N;
    node = in_node g N S;
    apart = apart;
    some = some g N S;
    leaves = leaves;
  }

  -- one set, one number
  pub one_number : (n m : ℕ) → Exists N n → Exists N m → ((o : Order) → In g N n o ↔ In g N m o) → n ≡ m
  one_number n m en em f = canon g laws N S n m en em (λ o. both_ways _ _ (f o).0 (f o).1)
