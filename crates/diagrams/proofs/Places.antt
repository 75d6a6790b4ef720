-- Where the orders of a set send the pieces, and what follows: the parts of a node are apart. Assumes nothing.
use Rattle.std.proofs.Common.{◌≡◌, ℕ, zero, suc, ◌<◌, ◌≤◌, ◌⊎◌, List, length, sym, ap, ◌∙◌, inl, inr, arith}
use mathlib.Core.Bool.{false≢true}
use Rattle.orders.specs.declared.order.Order.{Order}
use Rattle.orders.specs.Orders.{place, standing, place-standing, place-then}
use Rattle.orders.specs.Chains.{ChainLaws}
use Rattle.diagrams.specs.declared.Node.{Node}
use Rattle.diagrams.specs.Moves.{Moves, back}
use Rattle.diagrams.specs.Table.{at, Exists, x_of, y_of, Sound, NodeOk, In}
use Rattle.diagrams.proofs.Folds.{mem_zero, mem_one, mem_node}
use Rattle.diagrams.proofs.Groups.{same_sound, move_back}
use Rattle.diagrams.proofs.Numbers.{top_below}
use Rattle.diagrams.proofs.Bools.{or_split}

-- o leaves the pieces above x
abbrev pub Still : ℕ → Order → Type 0
Still x o = (k : ℕ) → x < k → k ≤ 16 → place o k ≡ k

pub record Upto (x y : ℕ) (o : Order) : Type 0 where
  pub still : Still x o
  pub least : y ≤ place o x

-- the orders of a node's low part
pub record Low (x y : ℕ) (o : Order) : Type 0 where
  pub still : Still x o
  pub above : y < place o x

-- the orders of its high part, moved
pub record High (x y : ℕ) (o : Order) : Type 0 where
  pub still : Still x o
  pub reached : place o x ≡ y

pub low_from : (x y u v : ℕ) (o : Order) → x ≤ 16 → y < x → (u < x) ⊎ ((u ≡ x) × (y < v)) → Upto u v o → Low x y o
low_from x y u v o hx hy (inl l) t = record {
  still = λ k a b. t.still k (omega arith) b;
  above = omega (arith, t.still x l hx);
}
low_from x y u v o hx hy (inr l) t = record {
  still = λ k a b. t.still k (omega arith) b;
  above = omega (arith, t.least, ap (place o) l.0);
}

low_upto : (x y : ℕ) (o : Order) → Low x y o → Upto x y o
low_upto x y o t = record { still = t.still; least = omega (arith, t.above) }

high_upto : (x y : ℕ) (o : Order) → High x y o → Upto x y o
high_upto x y o t = record { still = t.still; least = omega (arith, t.reached) }

module _ (g : Moves) (laws : ChainLaws g) where
  pub high_from : (x y u v : ℕ) (o : Order) → x ≤ 16 → y < x → 1 ≤ y → u < x → Upto u v (back g x y o) → High x y o
  high_from x y u v o hx hy hm l t = record {
    still = λ k a b. moved k ∙ ap (place (g x y)) (t.still k (omega arith) b) ∙ laws.still x y k a;
    reached = moved x ∙ ap (place (g x y)) (t.still x l hx) ∙ laws.goes x y (hm, hy, hx);
  }
    where
      moved : (k : ℕ) → place o k ≡ place (g x y) (place (back g x y o) k)
      moved k = ap (λ (p : Order). place p k) (sym (move_back g x y o)) ∙ place-then _ _ k

  module _ (N : List Node) (S : Sound N) where
    upto_deep : (b n : ℕ) → n < b → Exists N n → (o : Order) → In g N n o → Upto (x_of N n) (y_of N n) o
    unfolding x_of y_of
    upto_deep zero n h e o m = absurd (omega arith)
    upto_deep (suc b) zero h e o m = absurd (false≢true (sym (mem_zero g N o) ∙ m))
    upto_deep (suc b) (suc zero) h e o m =
        let is = same_sound o standing (sym (mem_one g N o) ∙ m) in
        record { still = λ k _ _. rw is (place-standing k); least = omega arith }
    upto_deep (suc b) (suc (suc i)) h e o m =
        let l : i < length N = omega arith in
        let k = S.ok i l in
        let lo_in = upto_deep b (at N i).lo (omega arith) (omega arith) o in
        let hi_in = upto_deep b (at N i).hi (omega arith) (omega arith) (back g (at N i).x (at N i).y o) in
        by k lo_in hi_in (or_split _ _ (sym (mem_node g N S i l o) ∙ m))
      where
        by : NodeOk N i (at N i) → (In g N (at N i).lo o → Upto (x_of N (at N i).lo) (y_of N (at N i).lo) o) →
            (In g N (at N i).hi (back g (at N i).x (at N i).y o) → Upto (x_of N (at N i).hi) (y_of N (at N i).hi) (back g (at N i).x (at N i).y o)) →
            (In g N (at N i).lo o) ⊎ (In g N (at N i).hi (back g (at N i).x (at N i).y o)) → Upto (at N i).x (at N i).y o
        by k lo_in hi_in (inl a) = low_upto _ _ o (low_from _ _ _ _ o k.x_max k.y_below (top_below N S _ _ _ (omega arith) k.y_min k.y_below k.lo_level) (lo_in a))
        by k lo_in hi_in (inr a) = high_upto _ _ o (high_from _ _ _ _ o k.x_max k.y_below k.y_min k.hi_x (hi_in a))

    -- every order of a set leaves the pieces above the top's x, and sends x no lower than y
    pub upto : (n : ℕ) → Exists N n → (o : Order) → In g N n o → Upto (x_of N n) (y_of N n) o
    upto n e o m = upto_deep (suc n) n (omega arith) e o m

    pub low : (i : ℕ) → i < length N → (o : Order) → In g N (at N i).lo o → Low (at N i).x (at N i).y o
    low i l o m =
        let k = S.ok i l in
        let e : Exists N (at N i).lo = omega arith in
        low_from _ _ _ _ o k.x_max k.y_below (top_below N S _ _ _ e k.y_min k.y_below k.lo_level) (upto _ e o m)

    pub high : (i : ℕ) → i < length N → (o : Order) → In g N (at N i).hi (back g (at N i).x (at N i).y o) → High (at N i).x (at N i).y o
    high i l o m =
        let k = S.ok i l in
        let e : Exists N (at N i).hi = omega arith in
        high_from _ _ _ _ o k.x_max k.y_below k.y_min k.hi_x (upto _ e _ m)

    -- no order is in both parts of a node
    pub disjoint : (i : ℕ) → i < length N → (o : Order) → In g N (at N i).lo o → In g N (at N i).hi (back g (at N i).x (at N i).y o) → ⊥
    disjoint i l o a b = omega (arith, (low i l o a).above, (high i l o b).reached)
