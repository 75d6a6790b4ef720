-- The three kinds of work on two sets, by one truth table `op`. Assumes nothing.
use Rattle.std.proofs.Common.{◌≡◌, ℕ, ◌+◌, ◌<◌, ◌≤◌, Bool, true, false, ◌||◌, ◌⊎◌, List, sym, refl, ap, ◌∙◌, ap₂, inl, inr, arith}
use mathlib.Core.Bool.{false≢true, or-false}
use Rattle.orders.specs.declared.order.Order.{Order}
use Rattle.orders.specs.Orders.{place}
use Rattle.orders.specs.Chains.{ChainLaws}
use Rattle.diagrams.specs.declared.Node.{Node}
use Rattle.diagrams.specs.declared.Task.{Task}
use Rattle.diagrams.specs.Moves.{Moves, back}
use Rattle.diagrams.specs.Table.{Exists, x_of, y_of, lo_of, hi_of, level_of, Sound, mem, In}
use Rattle.diagrams.specs.Rules.{Asks, NodeSet, Made}
use Rattle.diagrams.specs.Script.{Script, answer, make, enter}
use Rattle.diagrams.specs.Bodies.{both, row}
use Rattle.diagrams.specs.Work.{Valid, Set, measure}
use Rattle.diagrams.specs.Meets.{Meets}
use Rattle.diagrams.proofs.Folds.{x_more, level_more, mem_more}
use Rattle.diagrams.proofs.Places.{Low, High}
use Rattle.diagrams.proofs.Tops.{mem_parts, x_if_still, level_if_low, low_if_level, high_still, high_at}
use Rattle.diagrams.proofs.Numbers.{level_some, Parts, parts, one_level, lo_lower, hi_lower}

abbrev pub Op : Type 0
Op = Bool → Bool → Bool

module _ (op : Op) (none : op false false ≡ false) where
  pub op_split : (p q : Bool) → op p q ≡ true → (p ≡ true) ⊎ (q ≡ true)
  op_split true q e = inl refl
  op_split false true e = inr refl
  op_split false false e = absurd (false≢true (sym none ∙ e))

  -- two pairs of which one is false
  op_cross : (p q r s : Bool) → ((p ≡ true) ⊎ (q ≡ true) → (r ≡ true) ⊎ (s ≡ true) → ⊥) → (op p q || op r s) ≡ op (p || r) (q || s)
  op_cross false false r s f = rw none
  op_cross true q true s f = absurd (f (inl refl) (inl refl))
  op_cross true q false true f = absurd (f (inl refl) (inr refl))
  op_cross true true false false f = rw none (or-false (op true true))
  op_cross true false false false f = rw none (or-false (op true false))
  op_cross false true true s f = absurd (f (inr refl) (inl refl))
  op_cross false true false true f = absurd (f (inr refl) (inr refl))
  op_cross false true false false f = rw none (or-false (op false true))

  op_over : op true false ≡ true → (p q h : Bool) → (h ≡ true → (p ≡ true) ⊎ (q ≡ true) → ⊥) → (op p q || h) ≡ op (p || h) q
  op_over left true q true f = absurd (f refl (inl refl))
  op_over left false true true f = absurd (f refl (inr refl))
  op_over left false false true f = rw (none, left)
  op_over left true q false f = or-false (op true q)
  op_over left false q false f = or-false (op false q)

  op_skip : ((p : Bool) → op p false ≡ false) → (p q h : Bool) → (h ≡ true → (p ≡ true) ⊎ (q ≡ true) → ⊥) → op p q ≡ op (p || h) q
  op_skip off p true true f = absurd (f refl (inr refl))
  op_skip off p false true f = off p ∙ sym (off (p || true))
  op_skip off true q false f = refl
  op_skip off false q false f = refl

module _ (g : Moves) (op : Op) where
  abbrev pub Combined : List Node → ℕ → ℕ → Order → Bool
  Combined N a b o = op (mem g N a o) (mem g N b o)

-- a node n of N whose low part has become r in M, with other orders, all of them below
module _ (g : Moves) (laws : ChainLaws g) (N : List Node) (S : Sound N) (n : ℕ) (e : Exists N n) (h : 2 ≤ n) (P : Order → Bool)
    (low : (o : Order) → P o ≡ true → Low (x_of N n) (y_of N n) o) (M : List Node) (r : ℕ) (m : Made g N P M r) where
  abbrev p : Parts N S n
  p = parts N S n e h

  hi_in : Exists N (hi_of N n)
  hi_in = omega (arith, p.hi_below)

  relow_asks : Asks M (x_of N n) (y_of N n) r (hi_of N n)
  relow_asks = record {
    x_max = p.x_max;
    y_min = p.y_min;
    y_below = p.y_below;
    lo_there = m.there;
    hi_there = omega (arith, hi_in, m.extends.longer);
    lo_level = level_if_low g laws M m.sound (x_of N n) (y_of N n) r m.there p.y_min p.y_below (λ o i. low o (sym (m.means o) ∙ i));
    hi_x = rw (x_more N M m.extends (hi_of N n) hi_in) p.hi_x;
  }

  relow_set : (o : Order) → NodeSet g M (x_of N n) (y_of N n) r (hi_of N n) o ≡ (P o || mem g N (hi_of N n) (back g (x_of N n) (y_of N n) o))
  relow_set o = ap₂ ◌||◌ (m.means o) (mem_more g N M S m.extends (hi_of N n) hi_in (back g (x_of N n) (y_of N n) o))

-- a node whose parts have become r in M and s in K, by orders of the same kinds
module _ (g : Moves) (laws : ChainLaws g) (N : List Node) (S : Sound N) (n : ℕ) (e : Exists N n) (h : 2 ≤ n) (P Q : Order → Bool)
    (low : (o : Order) → P o ≡ true → Low (x_of N n) (y_of N n) o)
    (still : (o : Order) → Q o ≡ true → (k : ℕ) → x_of N n ≤ k → k ≤ 16 → place o k ≡ k)
    (M : List Node) (r : ℕ) (m : Made g N P M r) (K : List Node) (s : ℕ) (q : Made g M Q K s) where
  pub anew_asks : Asks K (x_of N n) (y_of N n) r s
  anew_asks =
      let p = parts N S n e h in
      record {
        x_max = p.x_max;
        y_min = p.y_min;
        y_below = p.y_below;
        lo_there = omega (arith, m.there, q.extends.longer);
        hi_there = q.there;
        lo_level = rw (level_more M K q.extends r m.there) (level_if_low g laws M m.sound (x_of N n) (y_of N n) r m.there p.y_min p.y_below
            (λ o i. low o (sym (m.means o) ∙ i)));
        hi_x = x_if_still g laws K q.sound (x_of N n) s q.there (omega (arith, p.y_below)) (λ o i. still o (sym (q.means o) ∙ i));
      }

  pub anew_set : (o : Order) → NodeSet g K (x_of N n) (y_of N n) r s o ≡ (P o || Q (back g (x_of N n) (y_of N n) o))
  anew_set o = ap₂ ◌||◌ (mem_more g M K m.sound q.extends r m.there o ∙ m.means o) (q.means (back g (x_of N n) (y_of N n) o))

-- a task T on two numbers makes op of their sets
pub record Binary (g : Moves) (op : Op) (T : ℕ → ℕ → Task) : Type 0 where
  pub none : op false false ≡ false
  pub valid : (N : List Node) (a b : ℕ) → Exists N a → Exists N b → Valid N (T a b)
  pub deep : (N : List Node) (a b : ℕ) → measure N (T a b) ≡ level_of N a + level_of N b
  pub set : (N : List Node) (a b : ℕ) (o : Order) → Set g N (T a b) o ≡ Combined g op N a b o

module _ (g : Moves) (op : Op) (N M : List Node) (a b r : ℕ) where
  made_as : (T : ℕ → ℕ → Task) → Binary g op T → Made g N (Set g N (T a b)) M r → Made g N (Combined g op N a b) M r
  made_as T B m = record { sound = m.sound; extends = m.extends; there = m.there; means = λ o. m.means o ∙ B.set N a b o }

-- the case that a is above b
module _ (g : Moves) (laws : ChainLaws g) (op : Op) (none : op false false ≡ false) (N : List Node) (S : Sound N) (a b : ℕ)
    (ea : Exists N a) (eb : Exists N b) (l : level_of N b < level_of N a) where
  pub above_node : 2 ≤ a
  above_node = level_some N a (omega arith)

  abbrev pa : Parts N S a
  pa = parts N S a ea above_node

  pub lo_in : Exists N (lo_of N a)
  lo_in = omega (arith, pa.lo_below)

  below_a : (o : Order) → (In g N (lo_of N a) o) ⊎ (In g N b o) → Low (x_of N a) (y_of N a) o
  below_a o (inl i) = low_if_level g laws N S _ _ (lo_of N a) lo_in pa.x_max pa.y_min pa.y_below pa.lo_level o i
  below_a o (inr i) = low_if_level g laws N S _ _ b eb pa.x_max pa.y_min pa.y_below (omega (arith, pa.level_is)) o i

  apart : (o : Order) → mem g N (hi_of N a) (back g (x_of N a) (y_of N a) o) ≡ true → (In g N (lo_of N a) o) ⊎ (In g N b o) → ⊥
  apart o i j = omega (arith, (high_at g laws N S a ea above_node o i).reached, (below_a o j).above)

  pub above_less : level_of N (lo_of N a) + level_of N b < level_of N a + level_of N b
  above_less = omega (arith, lo_lower N S a ea above_node)

  module _ (M : List Node) (r : ℕ) (m : Made g N (Combined g op N (lo_of N a) b) M r) where
    lows : (o : Order) → Combined g op N (lo_of N a) b o ≡ true → Low (x_of N a) (y_of N a) o
    lows o i = below_a o (op_split op none _ _ i)

    pub above_asks : Asks M (x_of N a) (y_of N a) r (hi_of N a)
    above_asks = relow_asks g laws N S a ea above_node (Combined g op N (lo_of N a) b) lows M r m

    pub above_set : op true false ≡ true → (o : Order) → NodeSet g M (x_of N a) (y_of N a) r (hi_of N a) o ≡ Combined g op N a b o
    above_set left o = relow_set g laws N S a ea above_node (Combined g op N (lo_of N a) b) lows M r m o
        ∙ op_over op none left (mem g N (lo_of N a) o) (mem g N b o) (mem g N (hi_of N a) (back g (x_of N a) (y_of N a) o)) (apart o)
        ∙ ap (λ (t : Bool). op t (mem g N b o)) (sym (mem_parts g N S a ea above_node o))

    pub skip_set : ((p : Bool) → op p false ≡ false) → (o : Order) → mem g M r o ≡ Combined g op N a b o
    skip_set off o = m.means o
        ∙ op_skip op none off (mem g N (lo_of N a) o) (mem g N b o) (mem g N (hi_of N a) (back g (x_of N a) (y_of N a) o)) (apart o)
        ∙ ap (λ (t : Bool). op t (mem g N b o)) (sym (mem_parts g N S a ea above_node o))

-- the case of one level
module _ (g : Moves) (laws : ChainLaws g) (op : Op) (none : op false false ≡ false) (N : List Node) (S : Sound N) (a b : ℕ)
    (ea : Exists N a) (eb : Exists N b) (ha : 2 ≤ a) (hb : 2 ≤ b) (l : level_of N a ≡ level_of N b) where
  abbrev ca : Parts N S a
  ca = parts N S a ea ha

  abbrev cb : Parts N S b
  cb = parts N S b eb hb

  ex : x_of N a ≡ x_of N b
  ex = (one_level N S a b ea eb ha hb l).0

  ey : y_of N a ≡ y_of N b
  ey = (one_level N S a b ea eb ha hb l).1

  ia : Exists N (hi_of N a)
  ia = omega (arith, ca.hi_below)

  ib : Exists N (hi_of N b)
  ib = omega (arith, cb.hi_below)

  both_low : (o : Order) → (In g N (lo_of N a) o) ⊎ (In g N (lo_of N b) o) → Low (x_of N a) (y_of N a) o
  both_low o (inl i) = low_if_level g laws N S _ _ (lo_of N a) (omega (arith, ca.lo_below)) ca.x_max ca.y_min ca.y_below ca.lo_level o i
  both_low o (inr i) = rw (ex, ey) (low_if_level g laws N S _ _ (lo_of N b) (omega (arith, cb.lo_below)) cb.x_max cb.y_min cb.y_below cb.lo_level o i)

  both_high : (o : Order) → (In g N (hi_of N a) (back g (x_of N a) (y_of N a) o)) ⊎ (In g N (hi_of N b) (back g (x_of N a) (y_of N a) o)) → High (x_of N a) (y_of N a) o
  both_high o (inl i) = high_at g laws N S a ea ha o i
  both_high o (inr i) = rw (ex, ey) (high_at g laws N S b eb hb o (rw (ex, ey) at i))

  both_still : (o : Order) → (In g N (hi_of N a) o) ⊎ (In g N (hi_of N b) o) → (k : ℕ) → x_of N a ≤ k → k ≤ 16 → place o k ≡ k
  both_still o (inl i) k w z = high_still g laws N S a ea ha o i k w z
  both_still o (inr i) k w z = high_still g laws N S b eb hb o i k (omega (arith, ex)) z

  module _ (M : List Node) (r : ℕ) (m : Made g N (Combined g op N (lo_of N a) (lo_of N b)) M r)
      (K : List Node) (s : ℕ) (q : Made g M (Combined g op M (hi_of N a) (hi_of N b)) K s) where
    same_high : (o : Order) → Combined g op M (hi_of N a) (hi_of N b) o ≡ Combined g op N (hi_of N a) (hi_of N b) o
    same_high o = ap₂ op (mem_more g N M S m.extends (hi_of N a) ia o) (mem_more g N M S m.extends (hi_of N b) ib o)

    q' : Made g M (Combined g op N (hi_of N a) (hi_of N b)) K s
    q' = record { sound = q.sound; extends = q.extends; there = q.there; means = λ o. q.means o ∙ same_high o }

    both_lows : (o : Order) → Combined g op N (lo_of N a) (lo_of N b) o ≡ true → Low (x_of N a) (y_of N a) o
    both_lows o i = both_low o (op_split op none _ _ i)

    stills : (o : Order) → Combined g op N (hi_of N a) (hi_of N b) o ≡ true → (k : ℕ) → x_of N a ≤ k → k ≤ 16 → place o k ≡ k
    stills o i = both_still o (op_split op none _ _ i)

    pub beside_asks : Asks K (x_of N a) (y_of N a) r s
    beside_asks = anew_asks g laws N S a ea ha _ _ both_lows stills M r m K s q'

    pub beside_set : (o : Order) → NodeSet g K (x_of N a) (y_of N a) r s o ≡ Combined g op N a b o
    beside_set o =
        let w = back g (x_of N a) (y_of N a) o in
        let b_is : mem g N b o ≡ (mem g N (lo_of N b) o || mem g N (hi_of N b) w) = rw (ex, ey) (mem_parts g N S b eb hb o) in
        anew_set g laws N S a ea ha _ _ both_lows stills M r m K s q' o
        ∙ op_cross op none (mem g N (lo_of N a) o) (mem g N (lo_of N b) o) (mem g N (hi_of N a) w) (mem g N (hi_of N b) w)
        (λ u v. omega (arith, (both_low o u).above, (both_high o v).reached))
        ∙ sym (ap₂ op (mem_parts g N S a ea ha o) b_is)

-- What the rules of the three kinds owe, by shape.
module _ (g : Moves) (laws : ChainLaws g) (op : Op) (T : ℕ → ℕ → Task) (B : Binary g op T) (N : List Node) (S : Sound N) (a b : ℕ) (ea : Exists N a) (eb : Exists N b) where
  abbrev Owed : Script → Type 0
  Owed s = Meets g (Combined g op N a b) (level_of N a + level_of N b) N s

  pub both_meets : 2 ≤ a → 2 ≤ b → level_of N a ≡ level_of N b → Owed (both a b (row N a) (row N b) T)
  both_meets ha hb l =
      let pa = parts N S a ea ha in
      let pb = parts N S b eb hb in
      let ia : Exists N (hi_of N a) = omega arith in
      let ib : Exists N (hi_of N b) = omega arith in (
        B.valid N _ _ (omega arith) (omega arith),
        rw (B.deep N (lo_of N a) (lo_of N b)) (omega (arith, lo_lower N S a ea ha, lo_lower N S b eb hb)),
        λ M r m. (
          B.valid M _ _ (omega (arith, m.extends.longer)) (omega (arith, m.extends.longer)),
          rw (B.deep M (hi_of N a) (hi_of N b), level_more N M m.extends (hi_of N a) ia, level_more N M m.extends (hi_of N b) ib) (omega (arith, hi_lower N S a ea ha, hi_lower N S b eb hb)),
          λ K s q.
              let m' = made_as g op N M (lo_of N a) (lo_of N b) r T B m in
              let q' = made_as g op M K (hi_of N a) (hi_of N b) s T B q in
              (beside_asks g laws op B.none N S a b ea eb ha hb l M r m' K s q', λ L v w. (w.there, λ o. w.means o ∙ beside_set g laws op B.none N S a b ea eb ha hb l M r m' K s q' o)),
        ),
      )

  module _ (l : level_of N b < level_of N a) where
    less : measure N (T (lo_of N a) b) < level_of N a + level_of N b
    less = rw (B.deep N (lo_of N a) b) (above_less g laws op B.none N S a b ea eb l)

    pub over_meets : op true false ≡ true → Owed (enter (T (lo_of N a) b) (λ r. make (x_of N a) (y_of N a) r (hi_of N a) answer))
    over_meets left = (
      B.valid N _ _ (lo_in g laws op B.none N S a b ea eb l) eb,
      less,
      λ M r m.
          let m' = made_as g op N M (lo_of N a) b r T B m in
          (above_asks g laws op B.none N S a b ea eb l M r m', λ L v w. (w.there, λ o. w.means o ∙ above_set g laws op B.none N S a b ea eb l M r m' left o)),
    )

    pub skip_meets : ((p : Bool) → op p false ≡ false) → Owed (enter (T (lo_of N a) b) answer)
    skip_meets off = (
      B.valid N _ _ (lo_in g laws op B.none N S a b ea eb l) eb,
      less,
      λ M r m.
          (m.there, skip_set g laws op B.none N S a b ea eb l M r (made_as g op N M (lo_of N a) b r T B m) off),
    )
