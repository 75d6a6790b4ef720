-- A table with one node more, and the rule `node`. Assumes nothing.
use Rattle.std.proofs.Common.{◌≡◌, ℕ, zero, suc, ◌<◌, ◌≤◌, Bool, true, false, ◌||◌, eqb, ltb, List, [], ◌∷◌, ◌++◌, length, get_or, sym, refl, ◌∙◌, ap₂, le_refl, arith, length-append, ltb-false, ltb-true, eq-eqb, eqb-true}
use mathlib.Core.Bool.{false≢true, or-false}
use native.Mathlib.Decide.{dec_lt}
use lib.Seq.{get_or-append_seam}
use lib.ListN.{get_or-append}
use borrow.Author.Tests.{eqb-false}
use Rattle.orders.specs.declared.order.Order.{Order}
use Rattle.diagrams.specs.declared.Node.{Node}
use Rattle.diagrams.specs.Moves.{Moves, back}
use Rattle.diagrams.specs.Table.{blank, at, Extends, Sound, NodeOk, Same, mem}
use Rattle.diagrams.specs.Rules.{is_node, first_by, first, find, new_node, node_by, node, Asks, NodeSet, Made, Makes}
use Rattle.diagrams.proofs.Folds.{x_more, level_more, count_more, mem_node, mem_more, mem_zero}
use Rattle.diagrams.proofs.Bools.{and_is}

pub extends_self : (N : List Node) → Extends N N
extends_self N = record { longer = le_refl _; kept = λ i l. refl }

pub extends_trans : (N M K : List Node) → Extends N M → Extends M K → Extends N K
extends_trans N M K X Y = record {
  longer = omega (arith, X.longer, Y.longer);
  kept = λ i l. Y.kept i (omega (arith, X.longer)) ∙ X.kept i l;
}

-- a node that may stand in a table may stand there when the table is longer
node_more : (N M : List Node) → Extends N M → (i : ℕ) (a : Node) → i ≤ length N → NodeOk N i a → NodeOk M i a
node_more N M X i a l k = record {
  x_max = k.x_max;
  y_min = k.y_min;
  y_below = k.y_below;
  lo_level = rw (level_more N M X a.lo (omega arith)) k.lo_level;
  hi_x = rw (x_more N M X a.hi (omega arith)) k.hi_x;
  hi_some = k.hi_some;
  lo_below = k.lo_below;
  hi_below = k.hi_below;
  counted = rw (count_more N M X a.lo (omega arith), count_more N M X a.hi (omega arith)) k.counted;
}

module _ (N : List Node) (a : Node) where
  abbrev pub pushed : List Node
  pushed = N ++ (a ∷ [])

  pub pushed_length : length pushed ≡ suc (length N)
  pushed_length = length-append N (a ∷ []) ∙ omega arith

  pub pushed_last : at pushed (length N) ≡ a
  pushed_last = get_or-append_seam N a [] blank

  pub push_extends : Extends N pushed
  push_extends = record { longer = omega (arith, pushed_length); kept = λ i l. get_or-append N (a ∷ []) blank i l }

  -- a node that may stand at the end, and is not there yet
  pub push_sound : Sound N → NodeOk N (length N) a → ((i : ℕ) → i < length N → Same (at N i) a → ⊥) → Sound pushed
  push_sound S k new = record { ok = λ i l. ok_at i (dec_lt i (length N)) l; apart = λ i j l q. apart_at i j (dec_lt i (length N)) (dec_lt j (length N)) l q }
    where
      last : (i : ℕ) → ¬ (i < length N) → i < length pushed → i ≡ length N
      last i h l = omega (arith, pushed_length)

      ok_at : (i : ℕ) → Dec (i < length N) → i < length pushed → NodeOk pushed i (at pushed i)
      ok_at i (yes h) l = rw (push_extends.kept i h) (node_more N pushed push_extends i (at N i) (omega arith) (S.ok i h))
      ok_at i (no h) l = rw (last i h l, pushed_last) (node_more N pushed push_extends (length N) a (le_refl _) k)

      apart_at : (i j : ℕ) → Dec (i < length N) → Dec (j < length N) → i < length pushed → j < length pushed → Same (at pushed i) (at pushed j) → i ≡ j
      apart_at i j (yes h) (yes d) l q s = S.apart i j h d (rw (push_extends.kept i h, push_extends.kept j d) at s)
      apart_at i j (yes h) (no d) l q s = absurd (new i h (rw (push_extends.kept i h, last j d q, pushed_last) at s))
      apart_at i j (no h) (yes d) l q s =
          let t : Same a (at N j) = rw (push_extends.kept j d, last i h l, pushed_last) at s in
          absurd (new j d record { same_x = sym t.same_x; same_y = sym t.same_y; same_lo = sym t.same_lo; same_hi = sym t.same_hi })
      apart_at i j (no h) (no d) l q s = last i h l ∙ sym (last j d q)

pub is_node_same : (x y lo hi : ℕ) (a : Node) → is_node x y lo hi a ≡ true → (a.x ≡ x) × (a.y ≡ y) × (a.lo ≡ lo) × (a.hi ≡ hi)
is_node_same x y lo hi a h =
    let p = (and_is _ _).0 h in
    let q = (and_is _ _).0 p.1 in
    let r = (and_is _ _).0 q.1 in
    (eqb-true _ _ p.0, eqb-true _ _ q.0, eqb-true _ _ r.0, eqb-true _ _ r.1)

same_is_node : (x y lo hi : ℕ) (a : Node) → a.x ≡ x → a.y ≡ y → a.lo ≡ lo → a.hi ≡ hi → is_node x y lo hi a ≡ true
same_is_node x y lo hi a p q r s = rw (eq-eqb a.x x p, eq-eqb a.y y q, eq-eqb a.lo lo r, eq-eqb a.hi hi s)

module _ {A : Type 0} (p : A → Bool) (d : A) where
  pub first_here : (l : List A) → first p l < length l → p (get_or l (first p l) d) ≡ true
  unfolding first
  first_here [] h = absurd (omega arith)
  first_here (a ∷ l) h = by (p a) refl (first_here l) h
    where
      by : (b : Bool) → p a ≡ b → (first p l < length l → p (get_or l (first p l) d) ≡ true) →
          first_by b (first p l) < suc (length l) → p (get_or (a ∷ l) (first_by b (first p l)) d) ≡ true
      by true e r q = e
      by false e r q = r (omega arith)

  pub first_none : (l : List A) → length l ≤ first p l → (i : ℕ) → i < length l → p (get_or l i d) ≡ false
  unfolding first
  first_none [] h i q = absurd (omega arith)
  first_none (a ∷ l) h i q = by (p a) refl (first_none l) h i q
    where
      by : (b : Bool) → p a ≡ b → (length l ≤ first p l → (i : ℕ) → i < length l → p (get_or l i d) ≡ false) →
          suc (length l) ≤ first_by b (first p l) → (i : ℕ) → i < suc (length l) → p (get_or (a ∷ l) i d) ≡ false
      by true e r g i q = absurd (omega arith)
      by false e r g zero q = e
      by false e r g (suc i) q = r (omega arith) i (omega arith)

module _ (g : Moves) (N : List Node) (S : Sound N) (x y lo hi : ℕ) (k : Asks N x y lo hi) where
  -- where the high part is empty, the low part is the set
  pub low_made : hi ≡ 0 → Made g N (NodeSet g N x y lo hi) N lo
  low_made e = record {
    sound = S;
    extends = extends_self N;
    there = k.lo_there;
    means = λ o. rw (e, mem_zero g N (back g x y o)) (sym (or-false (mem g N lo o)));
  }

  -- a node that is there is the set
  pub found_made : (i : ℕ) → i < length N → (at N i).x ≡ x → (at N i).y ≡ y → (at N i).lo ≡ lo → (at N i).hi ≡ hi → Made g N (NodeSet g N x y lo hi) N (suc (suc i))
  found_made i l p q r s = record {
    sound = S;
    extends = extends_self N;
    there = omega arith;
    means = λ o. mem_node g N S i l o ∙ (rw (p, q, r, s) refl);
  }

  -- a new node at the end is the set
  module _ (some_hi : 1 ≤ hi) (new : (i : ℕ) → i < length N → Same (at N i) (new_node N x y lo hi) → ⊥) where
    abbrev a : Node
    a = new_node N x y lo hi

    abbrev M : List Node
    M = pushed N a

    new_sound : Sound M
    new_sound = push_sound N a S record {
      x_max = k.x_max;
      y_min = k.y_min;
      y_below = k.y_below;
      lo_level = k.lo_level;
      hi_x = k.hi_x;
      hi_some = some_hi;
      lo_below = k.lo_there;
      hi_below = k.hi_there;
      counted = refl;
    } new

    new_set : (o : Order) → (mem g M (at M (length N)).lo o || mem g M (at M (length N)).hi (back g (at M (length N)).x (at M (length N)).y o)) ≡ NodeSet g N x y lo hi o
    new_set o = rw (pushed_last N a) (ap₂ ◌||◌ (mem_more g N M S (push_extends N a) lo k.lo_there o) (mem_more g N M S (push_extends N a) hi k.hi_there (back g x y o)))

    pub new_made : Made g N (NodeSet g N x y lo hi) M (suc (suc (length N)))
    new_made = record {
      sound = new_sound;
      extends = push_extends N a;
      there = omega (arith, pushed_length N a);
      means = λ o. mem_node g M new_sound (length N) (omega (arith, pushed_length N a)) o ∙ new_set o;
    }

module _ (g : Moves) (cap : ℕ) (N : List Node) (S : Sound N) where
  -- `node` makes its set, or the table is full
  pub node_makes : (x y lo hi n : ℕ) → Asks N x y lo hi → Makes g cap N (NodeSet g N x y lo hi) (node cap N x y lo hi n)
  unfolding node
  node_makes x y lo hi n k = by (eqb hi 0) (ltb (find N x y lo hi) (length N)) (ltb (length N) cap) refl refl refl
    where
      f : ℕ
      f = find N x y lo hi

      by : (s t u : Bool) → eqb hi 0 ≡ s → ltb f (length N) ≡ t → ltb (length N) cap ≡ u → Makes g cap N (NodeSet g N x y lo hi) (node_by N x y lo hi n s t u)
      by true t u es et eu = low_made g N S x y lo hi k (eqb-true hi 0 es)
      by false true u es et eu =
          let l : f < length N = ltb-true _ _ et in
          let q = is_node_same x y lo hi (at N f) (first_here (is_node x y lo hi) blank N l) in
          found_made g N S x y lo hi k f l q.0 q.1 q.2 q.3
      by false false true es et eu = new_made g N S x y lo hi k some_hi new
        where
          some_hi : 1 ≤ hi
          some_hi = let h : hi ≡ 0 → ⊥ = eqb-false hi 0 es in omega arith

          new : (i : ℕ) → i < length N → Same (at N i) (new_node N x y lo hi) → ⊥
          new i l s =
              let t = same_is_node x y lo hi (at N i) s.same_x s.same_y s.same_lo s.same_hi in
              false≢true (sym (first_none (is_node x y lo hi) blank N (ltb-false _ _ et) i l) ∙ t)
      by false false false es et eu = record { sound = S; extends = extends_self N; full = ltb-false _ _ eu }
