-- Lists of orders, each of which comes before those after it. Assumes nothing.
use Rattle.std.proofs.Common.{◌≡◌, ℕ, zero, suc, ◌+◌, ◌<◌, ◌≤◌, Bool, true, false, ◌⊎◌, List, [], ◌∷◌, ◌++◌, map, length, Some, None, Option, sym, refl, ap, ◌∙◌, subst, inl, inr, arith}
use mathlib.Core.Bool.{false≢true}
use Rattle.orders.specs.declared.order.Order.{Order}
use Rattle.diagrams.specs.Moves.{Moves, same}
use Rattle.diagrams.specs.Counting.{Has, Distinct}
use Rattle.diagrams.proofs.Groups.{same_refl, same_sound}
use Rattle.diagrams.proofs.Counts.{has_split, map_has}
use Rattle.numbering.specs.Before.{Before}
use Rattle.numbering.specs.Numbered.{Many, item, place_by, place_in}
use Rattle.numbering.proofs.Factors.{irreflexive, transitive}

-- a list without one of its orders
cut : (m : List Order) (a : Order) → Has m a → (l : List Order) × ((length m ≡ suc (length l)) × ((o : Order) → Has m o → (a ≡ o) ⊎ Has l o))
cut [] a h = absurd h
cut (b ∷ m) a (inl e) = (m, (refl, at))
  where
    at : (o : Order) → (b ≡ o) ⊎ Has m o → (a ≡ o) ⊎ Has m o
    at o (inl q) = inl (sym e ∙ q)
    at o (inr h) = inr h
cut (b ∷ m) a (inr h) = let r = cut m a h in (b ∷ r.0, (ap suc r.1.0, at r.0 r.1.1))
  where
    at : (l : List Order) → ((o : Order) → Has m o → (a ≡ o) ⊎ Has l o) → (o : Order) → (b ≡ o) ⊎ Has m o → (a ≡ o) ⊎ Has (b ∷ l) o
    at l f o (inl q) = inr (inl q)
    at l f o (inr k) = by (f o k)
      where
        by : (a ≡ o) ⊎ Has l o → (a ≡ o) ⊎ Has (b ∷ l) o
        by (inl q) = inl q
        by (inr q) = inr (inr q)

-- a list that another has, each of its orders once, is no longer
pub fewer : (l m : List Order) → Distinct l → ((o : Order) → Has l o → Has m o) → length l ≤ length m
fewer [] m d f = omega arith
fewer (a ∷ l) m d f =
    let r = cut m a (f a (inl refl)) in
    omega (arith, r.1.0, fewer l r.0 d.1 (λ o h. by r.0 o h (r.1.1 o (f o (inr h)))))
  where
    by : (k : List Order) (o : Order) → Has l o → (a ≡ o) ⊎ Has k o → Has k o
    by k o h (inl e) = absurd (d.0 (subst (Has l) (sym e) h))
    by k o h (inr q) = q

-- there are not two numbers of orders with one property
pub many_one : (P : Order → Type 0) (k j : ℕ) → Many P k → Many P j → k ≡ j
many_one P k j a b =
    let f = fewer a.list b.list a.once (λ o h. (b.exact o).1 ((a.exact o).0 h)) in
    let g = fewer b.list a.list b.once (λ o h. (a.exact o).1 ((b.exact o).0 h)) in
    omega (arith, a.long, b.long)

pub item_has : (l : List Order) (k : ℕ) (o : Order) → item l k ≡ Some o → Has l o
unfolding item
item_has [] k o e = let z : ◌≡◌ {A = ℕ} 0 1 = cc in absurd (omega arith)
item_has (a ∷ l) zero o e = inl (cc)
item_has (a ∷ l) (suc k) o e = inr (item_has l k o e)

pub item_some : (l : List Order) (k : ℕ) → k < length l → (o : Order) × (item l k ≡ Some o)
unfolding item
item_some [] k h = absurd (omega arith)
item_some (a ∷ l) zero h = (a, refl)
item_some (a ∷ l) (suc k) h = item_some l k (omega arith)

pub item_none : (l : List Order) (k : ℕ) → length l ≤ k → item l k ≡ None
unfolding item
item_none [] k h = refl
item_none (a ∷ l) zero h = absurd (omega arith)
item_none (a ∷ l) (suc k) h = item_none l k (omega arith)

-- two lists, one after the other
pub item_low : (l m : List Order) (k : ℕ) → k < length l → item (l ++ m) k ≡ item l k
unfolding item
item_low [] m k h = absurd (omega arith)
item_low (a ∷ l) m zero h = refl
item_low (a ∷ l) m (suc k) h = item_low l m k (omega arith)

pub item_high : (l m : List Order) (k : ℕ) → item (l ++ m) (length l + k) ≡ item m k
unfolding item
item_high [] m k = let z : 0 + k ≡ k = omega arith in rw z refl
item_high (a ∷ l) m k = let z : suc (length l) + k ≡ suc (length l + k) = omega arith in rw z (item_high l m k)

pub item_map : (f : Order → Order) (l : List Order) (k : ℕ) (o : Order) → item l k ≡ Some o → item (map f l) k ≡ Some (f o)
unfolding item
item_map f [] k o e = let z : ◌≡◌ {A = ℕ} 0 1 = cc in absurd (omega arith)
item_map f (a ∷ l) zero o e = let q : a ≡ o = cc in ap (λ (b : Order). Some (f b)) q
item_map f (a ∷ l) (suc k) o e = item_map f l k o e

-- an order stands where it is found, and is not there if it is not found
pub place_item : (l : List Order) (o : Order) (k : ℕ) → place_in l o ≡ Some k → item l k ≡ Some o
unfolding place_in item
place_item [] o k e = let z : ◌≡◌ {A = ℕ} 0 1 = cc in absurd (omega arith)
place_item (a ∷ l) o k e = by (same a o) (place_in l o) refl e (λ j. place_item l o j)
  where
    by : (b : Bool) (r : Option ℕ) → same a o ≡ b → place_by b r ≡ Some k → ((j : ℕ) → r ≡ Some j → item l j ≡ Some o) → item (a ∷ l) k ≡ Some o
    by true r s w rest = let z : 0 ≡ k = cc in rw (← z) (ap (λ (p : Order). Some p) (same_sound a o s))
    by false None s w rest = let z : ◌≡◌ {A = ℕ} 0 1 = cc in absurd (omega arith)
    by false (Some j) s w rest = let z : suc j ≡ k = cc in rw (← z) (rest j refl)

pub place_none : (l : List Order) (o : Order) → place_in l o ≡ None → Has l o → ⊥
unfolding place_in
place_none [] o e h = h
place_none (a ∷ l) o e h = by (same a o) (place_in l o) refl e (place_none l o) h
  where
    by : (b : Bool) (r : Option ℕ) → same a o ≡ b → place_by b r ≡ None → (r ≡ None → Has l o → ⊥) → (a ≡ o) ⊎ Has l o → ⊥
    by true r s w rest k = let z : ◌≡◌ {A = ℕ} 0 1 = cc in omega arith
    by false (Some j) s w rest k = let z : ◌≡◌ {A = ℕ} 0 1 = cc in omega arith
    by false None s w rest (inl k) = false≢true (sym s ∙ subst (λ (p : Order). same a p ≡ true) k (same_refl a))
    by false None s w rest (inr k) = rest refl k

module _ (g : Moves) where
  -- each order comes before those after it
  abbrev pub Sorted : List Order → Type 0
  Sorted [] = Unit {0}
  Sorted (a ∷ l) = ((b : Order) → Has l b → Before g a b) × Sorted l

  pub sorted_both : (l m : List Order) → Sorted l → Sorted m → ((a b : Order) → Has l a → Has m b → Before g a b) → Sorted (l ++ m)
  sorted_both [] m s t f = t
  sorted_both (a ∷ l) m s t f = (λ b h. by b (has_split l m b h), sorted_both l m s.1 t (λ c b h k. f c b (inr h) k))
    where
      by : (b : Order) → (Has l b) ⊎ (Has m b) → Before g a b
      by b (inl h) = s.0 b h
      by b (inr h) = f a b (inl refl) h

  pub sorted_map : (f : Order → Order) (l : List Order) → ((a b : Order) → Has l a → Has l b → Before g a b → Before g (f a) (f b)) → Sorted l → Sorted (map f l)
  sorted_map f [] keeps s = tt
  sorted_map f (a ∷ l) keeps s = (
    λ b h.
        let r = map_has f l b h in
        subst (Before g (f a)) r.1.1 (keeps a r.0 (inl refl) (inr r.1.0) (s.0 r.0 r.1.0)),
    sorted_map f l (λ c b h k. keeps c b (inr h) (inr k)) s.1,
  )

  -- the order at k of such a list has k of the list's orders before it
  pub sorted_many : (l : List Order) → Sorted l → Distinct l → (k : ℕ) (o : Order) → item l k ≡ Some o → Many (λ p. Has l p × Before g p o) k
  unfolding item
  sorted_many [] s d k o e = let z : ◌≡◌ {A = ℕ} 0 1 = cc in absurd (omega arith)
  sorted_many (a ∷ l) s d zero o e = record { list = []; once = tt; long = refl; exact = λ p. (λ h. absurd h, λ h. none p h.0 h.1) }
    where
      first : a ≡ o
      first = cc

      none : (p : Order) → (a ≡ p) ⊎ Has l p → Before g p o → ⊥
      none p (inl q) h = irreflexive g o (subst (λ (c : Order). Before g c o) (sym q ∙ first) h)
      none p (inr q) h = irreflexive g a (transitive g a p a (s.0 p q) (subst (Before g p) (sym first) h))
  sorted_many (a ∷ l) s d (suc k) o e =
      let m = sorted_many l s.1 d.1 k o e in
      record {
        list = a ∷ m.list;
        once = (λ h. d.0 ((m.exact a).0 h).0, m.once);
        long = ap suc m.long;
        exact = λ p. (into m p, λ h. out m p h.0 h.1);
      }
    where
      into : (m : Many (λ p. Has l p × Before g p o) k) (p : Order) → (a ≡ p) ⊎ Has m.list p → Has (a ∷ l) p × Before g p o
      into m p (inl q) = (inl q, subst (λ (c : Order). Before g c o) q (s.0 o (item_has l k o e)))
      into m p (inr q) = let r = (m.exact p).0 q in (inr r.0, r.1)

      out : (m : Many (λ p. Has l p × Before g p o) k) (p : Order) → (a ≡ p) ⊎ Has l p → Before g p o → (a ≡ p) ⊎ Has m.list p
      out m p (inl q) h = inl q
      out m p (inr q) h = inr ((m.exact p).1 (q, h))
