-- The count of a node is the number of its orders. Assumes nothing.
use Rattle.std.proofs.Common.{◌≡◌, ℕ, zero, suc, ◌<◌, ◌⊎◌, List, [], ◌∷◌, ◌++◌, map, length, sym, refl, ap, ◌∙◌, subst, ap₂, inl, inr, arith, length-append}
use lib.ListN.{length-map}
use Rattle.orders.specs.declared.order.Order.{Order}
use Rattle.orders.specs.Chains.{ChainLaws}
use Rattle.orders.specs.Orders.{standing}
use Rattle.diagrams.specs.declared.Node.{Node}
use Rattle.diagrams.specs.Moves.{Moves, back}
use Rattle.diagrams.specs.Table.{at, Exists, count_of, fold, Sound, mem, In}
use Rattle.diagrams.specs.Counting.{Has, Distinct, moved, list_of_node, orders_of}
use Rattle.diagrams.specs.Theorems.{Counted}
use Rattle.diagrams.proofs.Folds.{fold_deep}
use Rattle.diagrams.proofs.Places.{disjoint}
use Rattle.diagrams.proofs.Canon.{in_low, in_high, in_parts}
use Rattle.diagrams.proofs.Sets.{in_none, in_one}
use Rattle.diagrams.proofs.Groups.{back_move, move_back}

pub has_left : (l m : List Order) (o : Order) → Has l o → Has (l ++ m) o
has_left [] m o h = absurd h
has_left (a ∷ l) m o (inl e) = inl e
has_left (a ∷ l) m o (inr h) = inr (has_left l m o h)

pub has_right : (l m : List Order) (o : Order) → Has m o → Has (l ++ m) o
has_right [] m o h = h
has_right (a ∷ l) m o h = inr (has_right l m o h)

pub has_split : (l m : List Order) (o : Order) → Has (l ++ m) o → (Has l o) ⊎ (Has m o)
has_split [] m o h = inr h
has_split (a ∷ l) m o (inl e) = inl (inl e)
has_split (a ∷ l) m o (inr h) = by (has_split l m o h)
  where
    by : (Has l o) ⊎ (Has m o) → (Has (a ∷ l) o) ⊎ (Has m o)
    by (inl k) = inl (inr k)
    by (inr k) = inr k

pub distinct_both : (l m : List Order) → Distinct l → Distinct m → ((o : Order) → Has l o → Has m o → ⊥) → Distinct (l ++ m)
distinct_both [] m d e f = e
distinct_both (a ∷ l) m d e f = (λ h. by (has_split l m a h), distinct_both l m d.1 e (λ o h. f o (inr h)))
  where
    by : (Has l a) ⊎ (Has m a) → ⊥
    by (inl h) = d.0 h
    by (inr h) = f a (inl refl) h

module _ (f : Order → Order) where
  pub has_map : (l : List Order) (o : Order) → Has l o → Has (map f l) (f o)
  has_map [] o h = absurd h
  has_map (a ∷ l) o (inl e) = inl (ap f e)
  has_map (a ∷ l) o (inr h) = inr (has_map l o h)

  pub map_has : (l : List Order) (p : Order) → Has (map f l) p → (o : Order) × (Has l o × (f o ≡ p))
  map_has [] p h = absurd h
  map_has (a ∷ l) p (inl e) = (a, (inl refl, e))
  map_has (a ∷ l) p (inr h) = let r = map_has l p h in (r.0, (inr r.1.0, r.1.1))

  pub distinct_map : ((a b : Order) → f a ≡ f b → a ≡ b) → (l : List Order) → Distinct l → Distinct (map f l)
  distinct_map inj [] d = tt
  distinct_map inj (a ∷ l) d =
      (λ h. let r = map_has l (f a) h in d.0 (subst (Has l) (inj r.0 a r.1.1) r.1.0), distinct_map inj l d.1)

module _ (g : Moves) (laws : ChainLaws g) (N : List Node) (S : Sound N) where
  pub list_node : (i : ℕ) → i < length N → orders_of g N (suc (suc i)) ≡ list_of_node g (at N i) (orders_of g N (at N i).lo) (orders_of g N (at N i).hi)
  unfolding orders_of fold
  list_node i l =
      let k = S.ok i l in
      ap₂ (list_of_node g (at N i))
      (fold_deep [] (standing ∷ []) (list_of_node g) N S (suc (suc i)) (suc (at N i).lo) (at N i).lo (omega arith) (omega arith) (omega arith))
      (fold_deep [] (standing ∷ []) (list_of_node g) N S (suc (suc i)) (suc (at N i).hi) (at N i).hi (omega arith) (omega arith) (omega arith))

  -- a node, of whose parts it holds
  module _ (i : ℕ) (l : i < length N) (lo : Counted g N (at N i).lo) (hi : Counted g N (at N i).hi) where
    abbrev n : ℕ
    n = suc (suc i)

    abbrev x : ℕ
    x = (at N i).x

    abbrev y : ℕ
    y = (at N i).y

    abbrev low : List Order
    low = orders_of g N (at N i).lo

    abbrev high : List Order
    high = map (moved g (at N i)) (orders_of g N (at N i).hi)

    out : (o : Order) → Has (low ++ high) o → In g N n o
    out o h = by (has_split low high o h)
      where
        by : (Has low o) ⊎ (Has high o) → In g N n o
        by (inl k) = in_low g N S i l o ((lo.exact o).0 k)
        by (inr k) =
            let r = map_has (moved g (at N i)) (orders_of g N (at N i).hi) o k in
            subst (In g N n) r.1.1 (in_high g N S i l r.0 ((hi.exact r.0).0 r.1.0))

    into : (o : Order) → In g N n o → Has (low ++ high) o
    into o m = by (in_parts g N S i l o m)
      where
        by : (In g N (at N i).lo o) ⊎ (In g N (at N i).hi (back g x y o)) → Has (low ++ high) o
        by (inl k) = has_left low high o ((lo.exact o).1 k)
        by (inr k) =
            let h = has_map (moved g (at N i)) (orders_of g N (at N i).hi) (back g x y o) ((hi.exact (back g x y o)).1 k) in
            has_right low high o (subst (Has high) (move_back g x y o) h)

    -- the parts of a node are apart
    both : (o : Order) → Has low o → Has high o → ⊥
    both o h k =
        let r = map_has (moved g (at N i)) (orders_of g N (at N i).hi) o k in
        let from : back g x y o ≡ r.0 = ap (back g x y) (sym r.1.1) ∙ back_move g x y r.0 in
        disjoint g laws N S i l o ((lo.exact o).0 h) (ap (mem g N (at N i).hi) from ∙ (hi.exact r.0).0 r.1.0)

    inj : (a b : Order) → moved g (at N i) a ≡ moved g (at N i) b → a ≡ b
    inj a b e = sym (back_move g x y a) ∙ ap (back g x y) e ∙ back_move g x y b

    node_counted : Counted g N n
    unfolding count_of
    node_counted =
        let k = S.ok i l in
        record {
          long = rw (list_node i l, length-append low high, length-map (orders_of g N (at N i).hi) (moved g (at N i))) (omega (arith, lo.long, hi.long, k.counted));
          once = rw (list_node i l) (distinct_both low high lo.once (distinct_map (moved g (at N i)) inj (orders_of g N (at N i).hi) hi.once) both);
          exact = λ o. rw (list_node i l) (out o, into o);
        }

  counted_deep : (b n : ℕ) → n < b → Exists N n → Counted g N n
  counted_deep zero n h e = absurd (omega arith)
  counted_deep (suc b) zero h e = unfold orders_of fold count_of in record { long = refl; once = tt; exact = λ o. (λ k. absurd k, in_none g N o) }
  counted_deep (suc b) (suc zero) h e = unfold orders_of fold count_of in record { long = refl; once = (λ k. k, tt); exact = λ o. (only o, λ i. inl (sym ((in_one g N o).0 i))) }
    where
      only : (o : Order) → (standing ≡ o) ⊎ ⊥ → In g N 1 o
      only o (inl q) = (in_one g N o).1 (sym q)
      only o (inr q) = absurd q
  counted_deep (suc b) (suc (suc i)) h e =
      let l : i < length N = omega arith in
      let k = S.ok i l in
      node_counted i l (counted_deep b (at N i).lo (omega arith) (omega arith)) (counted_deep b (at N i).hi (omega arith) (omega arith))

  pub counted : (n : ℕ) → Exists N n → Counted g N n
  counted n e = counted_deep (suc n) n (omega arith) e
