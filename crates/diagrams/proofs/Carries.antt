-- What `carry` means. Assumes nothing.
use Rattle.std.proofs.Common.{◌≡◌, ℕ, ◌+◌, ◌*◌, ◌<◌, ◌≤◌, max, Bool, true, false, ◌||◌, eqb, ltb, List, sym, refl, ap, ◌∙◌, ap₂, arith, ltb-false, ltb-true, eqb-true}
use mathlib.Core.Bool.{false≢true}
use native.Mathlib.Decide.{ℕ_discrete}
use borrow.Author.Tests.{eqb-false}
use Rattle.orders.specs.declared.order.Order.{Order}
use Rattle.orders.specs.Orders.{place, standing, then, inverse, place-then}
use Rattle.orders.specs.Chains.{ChainLaws}
use Rattle.orders.specs.Dimension.{dimension, dimension_within, dimension_moves, dimension_still}
use Rattle.orders.specs.Group.{then-standing, inverse-standing}
use Rattle.diagrams.specs.declared.Node.{Node}
use Rattle.diagrams.specs.declared.Task.TheVariants.{Join}
use Rattle.diagrams.specs.Moves.{Moves, same, back}
use Rattle.diagrams.specs.Script.{Script, answer, enter}
use Rattle.diagrams.specs.Bodies.{row, moved_by, high_body, carry_body}
use Rattle.diagrams.specs.Meets.{Meets}
use Rattle.diagrams.specs.Table.{Exists, Extends, x_of, y_of, lo_of, hi_of, level_of, Sound, mem, In}
use Rattle.diagrams.specs.Rules.{Asks, NodeSet, Made}
use Rattle.diagrams.proofs.Levels.{level_pos}
use Rattle.diagrams.proofs.Folds.{x_more, mem_more, mem_zero}
use Rattle.diagrams.proofs.Places.{upto}
use Rattle.diagrams.proofs.Pushes.{extends_trans}
use Rattle.diagrams.proofs.Tops.{mem_parts, x_if_still, high_still}
use Rattle.diagrams.proofs.Dims.{dim_if, dim_some, place_upto}
use Rattle.diagrams.proofs.Groups.{same_refl, same_sound, place_min, redo, back_both, back_carried, place_back}
use Rattle.diagrams.proofs.Numbers.{level_small, x_some, Parts, parts, level_max, lo_x}

abbrev pub carry_depth : List Node → ℕ → Order → ℕ
carry_depth N a h = max (x_of N a) (dimension h) * 128 + level_of N a

-- h leaves the pieces from x on
abbrev pub Rests : ℕ → Order → Type 0
Rests x h = (j : ℕ) → x ≤ j → j ≤ 16 → place h j ≡ j

-- the orders of a, each followed by h
abbrev pub Carried : Moves → List Node → ℕ → Order → Order → Bool
Carried g N a h o = mem g N a (then o (inverse h))

module _ (g : Moves) (laws : ChainLaws g) where
  -- an order that leaves what is above x, with the move of x to its place taken off, leaves x too
  settle : (h : Order) (x z : ℕ) → ((j : ℕ) → x < j → j ≤ 16 → place h j ≡ j) → place h x ≡ z → x ≤ 16 → 1 ≤ z → z < x → Rests x (back g x z h)
  settle h x z f e a b c j l m = place-then h _ j ∙ by (ℕ_discrete j x)
    where
      by : Dec (j ≡ x) → place (inverse (g x z)) (place h j) ≡ j
      by (yes q) = rw (q, e) (place_back (g x z) x z (laws.goes x z (b, c, a)))
      by (no q) =
          let u : x < j = omega arith in
          rw (f j u m) (place_back (g x z) j j (laws.still x z j u))

  carried_rests : (N : List Node) (a x : ℕ) (h : Order) → ((p : Order) → In g N a p → Rests x p) → Rests x h → (o : Order) → Carried g N a h o ≡ true → Rests x o
  carried_rests N a x h f rests o m j l w =
      let p = then o (inverse h) in
      ap (λ (c : Order). place c j) (sym (redo o h)) ∙ place-then p h j ∙ ap (place h) (f p m j l w) ∙ rests j l w

  -- a set r in M of orders that leave x and above, before the move of x to z
  module _ (N M : List Node) (P : Order → Bool) (r x z : ℕ) (m : Made g N P M r) (f : (o : Order) → P o ≡ true → Rests x o) (a : x ≤ 16) (b : 1 ≤ z) (c : z < x) where
    pub lift_asks : Asks M x z 0 r
    lift_asks = record {
      x_max = a;
      y_min = b;
      y_below = c;
      lo_there = omega arith;
      hi_there = m.there;
      lo_level = omega (arith, level_small M 0 (omega arith), level_pos x z c);
      hi_x = x_if_still g laws M m.sound x r m.there (omega arith) (λ o i. f o (sym (m.means o) ∙ i));
    }

    pub lift_set : (o : Order) → NodeSet g M x z 0 r o ≡ P (back g x z o)
    lift_set o = ap (λ (t : Bool). t || mem g M r (back g x z o)) (mem_zero g M o) ∙ m.means (back g x z o)

  -- h moves a piece above those of a
  module _ (N : List Node) (S : Sound N) (a : ℕ) (h : Order) (ea : Exists N a) (l : x_of N a < dimension h) where
    abbrev d : ℕ
    d = dimension h

    abbrev e : ℕ
    e = place h d

    pub d_max : d ≤ 16
    d_max = dimension_within h

    pub d_min : 1 ≤ d
    d_min = omega arith

    pub e_min : 1 ≤ e
    e_min = place_min h d d_min d_max

    pub e_below : e < d
    e_below = omega (arith, dimension_moves h d_min, place_upto h d d (λ j u _. dimension_still h j u) d_min (omega arith) d_max)

    raised_rests : Rests d (back g d e h)
    raised_rests = settle h d e (λ j u _. dimension_still h j u) refl d_max e_min e_below

    pub raise_less : carry_depth N a (back g d e h) < carry_depth N a h
    raise_less = omega (arith, dim_if (back g d e h) d d_min raised_rests)

    module _ (M : List Node) (r : ℕ) (m : Made g N (Carried g N a (back g d e h)) M r) where
      orders_rest : (o : Order) → Carried g N a (back g d e h) o ≡ true → Rests d o
      orders_rest = carried_rests N a d (back g d e h) (λ p i j u w. (upto g laws N S a ea p i).still j (omega arith) w) raised_rests

      pub raise_asks : Asks M d e 0 r
      raise_asks = lift_asks N M _ r d e m orders_rest d_max e_min e_below

      pub raise_set : (o : Order) → NodeSet g M d e 0 r o ≡ Carried g N a h o
      raise_set o = lift_set N M _ r d e m orders_rest d_max e_min e_below o ∙ ap (mem g N a) (back_both g d e o h)

  -- h moves no piece above those of the node a
  module _ (N : List Node) (S : Sound N) (a : ℕ) (h : Order) (ea : Exists N a) (l : dimension h ≤ x_of N a) (one : 1 ≤ dimension h) where
    abbrev x : ℕ
    x = x_of N a

    abbrev k : Order
    k = then (g x (y_of N a)) h

    abbrev z : ℕ
    z = place k x

    pub node_a : 2 ≤ a
    node_a = x_some N a (omega arith)

    pa : Parts N S a
    pa = parts N S a ea node_a

    k_stays : (j : ℕ) → x < j → j ≤ 16 → place k j ≡ j
    k_stays j u w =
        place-then _ h j ∙ ap (place h) (laws.still x (y_of N a) j u) ∙ dimension_still h j (omega arith)

    pub z_min : 1 ≤ z
    z_min = place_min k x (omega (arith, pa.y_below)) pa.x_max

    pub z_max : z ≤ x
    z_max = place_upto k x x k_stays (omega (arith, pa.y_below)) (omega arith) pa.x_max

    hi_in : Exists N (hi_of N a)
    hi_in = omega (arith, pa.hi_below)

    pub low_less : carry_depth N (lo_of N a) h < carry_depth N a h
    low_less = omega (arith, lo_x N S a ea node_a, pa.lo_level, pa.level_is)

    -- a call on the high part with an order that leaves x and above goes less deep
    hi_less : (M : List Node) → Sound M → Extends N M → (c : Order) → Rests x c → carry_depth M (hi_of N a) c < carry_depth N a h
    hi_less M T X c rests =
        let e : Exists M (hi_of N a) = omega (arith, hi_in, X.longer) in
        omega (arith, dim_if c x (omega arith) rests, pa.hi_x, x_more N M X (hi_of N a) hi_in, level_max M T (hi_of N a) e)

    pub kept_less : (M : List Node) → Sound M → Extends N M → z ≡ x → carry_depth M (hi_of N a) k < carry_depth N a h
    kept_less M T X e = hi_less M T X k rests
      where
        rests : Rests x k
        rests j u w = by (ℕ_discrete j x)
          where
            by : Dec (j ≡ x) → place k j ≡ j
            by (yes q) = rw q e
            by (no q) = k_stays j (omega arith) w

    -- z is below x: the high part goes before the move of x to z
    module _ (c : z < x) (M : List Node) (T : Sound M) (X : Extends N M) where
      moved_rests : Rests x (back g x z k)
      moved_rests = settle k x z k_stays refl pa.x_max z_min c

      pub moved_less : carry_depth M (hi_of N a) (back g x z k) < carry_depth N a h
      moved_less = hi_less M T X (back g x z k) moved_rests

      module _ (K : List Node) (s : ℕ) (m : Made g M (Carried g M (hi_of N a) (back g x z k)) K s) where
        hi_rests : (o : Order) → Carried g M (hi_of N a) (back g x z k) o ≡ true → Rests x o
        hi_rests = carried_rests M (hi_of N a) x (back g x z k)
            (λ p i. high_still g laws N S a ea node_a p (sym (mem_more g N M S X (hi_of N a) hi_in p) ∙ i)) moved_rests

        pub moved_asks : Asks K x z 0 s
        moved_asks = lift_asks M K _ s x z m hi_rests pa.x_max z_min c

        pub moved_set : (o : Order) → NodeSet g K x z 0 s o ≡ Carried g M (hi_of N a) k o
        moved_set o = lift_set M K _ s x z m hi_rests pa.x_max z_min c o ∙ ap (mem g M (hi_of N a)) (back_both g x z o k)

    -- the join of the two carried parts
    pub turn_set : (M : List Node) (r : ℕ) (m : Made g N (Carried g N (lo_of N a) h) M r) (K : List Node) (s : ℕ) (q : Made g M (Carried g M (hi_of N a) k) K s) →
        (o : Order) → (mem g K r o || mem g K s o) ≡ Carried g N a h o
    turn_set M r m K s q o =
        let low : mem g K r o ≡ Carried g N (lo_of N a) h o = mem_more g M K m.sound q.extends r m.there o ∙ m.means o in
        let top : mem g K s o ≡ mem g N (hi_of N a) (back g x (y_of N a) (then o (inverse h))) =
        q.means o ∙ mem_more g N M S m.extends (hi_of N a) hi_in (then o (inverse k)) ∙ ap (mem g N (hi_of N a)) (sym (back_carried g x (y_of N a) o h)) in
        ap₂ ◌||◌ low top ∙ sym (mem_parts g N S a ea node_a (then o (inverse h)))

-- what the rule owes
module _ (g : Moves) (laws : ChainLaws g) where
  made_comp : (N M : List Node) (P Q : Order → Bool) (K : List Node) (r : ℕ) → Extends N M → ((o : Order) → P o ≡ Q o) → Made g M P K r → Made g N Q K r
  made_comp N M P Q K r X f m = record { sound = m.sound; extends = extends_trans N M K X m.extends; there = m.there; means = λ o. m.means o ∙ f o }

  module _ (N : List Node) (S : Sound N) (a : ℕ) (h : Order) (ea : Exists N a) where
    abbrev Owed : List Node → Script → Type 0
    Owed M s = Meets g (Carried g N a h) (250 + carry_depth N a h) M s

    raise_meets : x_of N a < dimension h → Owed N (carry_body g (row N a) a h false false true)
    raise_meets l = (
      ea,
      omega (arith, raise_less g laws N S a h ea l),
      λ M r m.
          (raise_asks g laws N S a h ea l M r m, λ L v w. (w.there, λ o. w.means o ∙ raise_set g laws N S a h ea l M r m o)),
    )

    module _ (l : dimension h ≤ x_of N a) (one : 1 ≤ dimension h) where
      abbrev k' : Order
      k' = moved_by g (row N a) h

      abbrev z' : ℕ
      z' = place k' (x_of N a)

      in_hi : (M : List Node) → Extends N M → Exists M (hi_of N a)
      in_hi M X = let p = parts N S a ea (node_a g laws N S a h ea l one) in omega (arith, p.hi_below, X.longer)

      -- the last step: the join of the two carried parts
      last : (M : List Node) (r : ℕ) (m : Made g N (Carried g N (lo_of N a) h) M r) (K : List Node) (s : ℕ) (q : Made g M (Carried g M (hi_of N a) k') K s) →
          Owed K (enter (Join r s) answer)
      last M r m K s q =
          let e : Exists K r = omega (arith, m.there, q.extends.longer) in (
            (e, q.there),
            omega (arith, level_max K q.sound r e, level_max K q.sound s q.there),
            λ L v w.
                (w.there, λ o. w.means o ∙ turn_set g laws N S a h ea l one M r m K s q o),
          )

      high : (M : List Node) (r : ℕ) (m : Made g N (Carried g N (lo_of N a) h) M r) (t : Bool) → eqb z' (x_of N a) ≡ t → Owed M (high_body g (x_of N a) z' (hi_of N a) k' r t)
      high M r m true e =
          (in_hi M m.extends, omega (arith, kept_less g laws N S a h ea l one M m.sound m.extends (eqb-true z' (x_of N a) e)), λ K s q. last M r m K s q)
      high M r m false e =
          let ne : ¬ (z' ≡ x_of N a) = eqb-false z' (x_of N a) e in
          let c : z' < x_of N a = omega (arith, z_max g laws N S a h ea l one) in (
            in_hi M m.extends,
            omega (arith, moved_less g laws N S a h ea l one c M m.sound m.extends),
            λ K s q. (
              moved_asks g laws N S a h ea l one c M m.sound m.extends K s q,
              λ J v w.
                  last M r m J v (made_comp M K _ _ J v q.extends (moved_set g laws N S a h ea l one c M m.sound m.extends K s q) w),
            ),
          )

      turn_meets : Owed N (carry_body g (row N a) a h false false false)
      turn_meets =
          let p = parts N S a ea (node_a g laws N S a h ea l one) in
          (omega (arith, p.lo_below), omega (arith, low_less g laws N S a h ea l one), λ M r m. high M r m (eqb z' (x_of N a)) refl)

    pub carry_meets : Owed N (carry_body g (row N a) a h (eqb a 0) (same h standing) (ltb (x_of N a) (dimension h)))
    carry_meets = by (eqb a 0) (same h standing) (ltb (x_of N a) (dimension h)) refl refl refl
      where
        by : (s t u : Bool) → eqb a 0 ≡ s → same h standing ≡ t → ltb (x_of N a) (dimension h) ≡ u → Owed N (carry_body g (row N a) a h s t u)
        by true t u es et eu = (omega arith, λ o. rw (eqb-true a 0 es, mem_zero g N o, mem_zero g N (then o (inverse h))))
        by false true u es et eu = (ea, λ o. ap (mem g N a) (sym (ap (then o) (ap (inverse) (same_sound h standing et) ∙ inverse-standing) ∙ then-standing o)))
        by false false true es et eu = raise_meets (ltb-true _ _ eu)
        by false false false es et eu = turn_meets (ltb-false _ _ eu) (dim_some h other)
          where
            other : ¬ (h ≡ standing)
            other e = false≢true (sym et ∙ ap (λ (c : Order). same c standing) e ∙ same_refl standing)
