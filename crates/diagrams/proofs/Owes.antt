-- Every kind of work keeps what the engine asks. Assumes nothing.
use Rattle.std.proofs.Common.{◌≡◌, ℕ, ◌+◌, ◌<◌, ◌≤◌, Bool, true, false, not, ◌&&◌, ◌||◌, eqb, ◌⊎◌, List, sym, refl, ◌∙◌, subst, inl, inr, add_comm, arith, eqb-true}
use mathlib.Core.Bool.{or-false, or_self}
use borrow.Author.Tests.{eqb-false}
use Rattle.orders.specs.declared.order.Order.{Order}
use Rattle.orders.specs.Chains.{ChainLaws}
use Rattle.diagrams.specs.declared.Node.{Node}
use Rattle.diagrams.specs.declared.Task.{Task}
use Rattle.diagrams.specs.declared.Task.TheVariants.{Join, Meet, Without, Carry, Follow, Pick}
use Rattle.std.specs.declared.cmp.Ordering.{Ordering}
use Rattle.std.specs.declared.cmp.Ordering.TheVariants.{Less, Equal, Greater}
use Rattle.std.specs.Ordering.{MatchOrdering, nat_cmp}
use Rattle.std.specs.Cmp.{ranks}
use Rattle.diagrams.specs.Moves.{Moves}
use Rattle.diagrams.specs.Table.{Exists, level_of, Sound, mem}
use Rattle.diagrams.specs.Script.{Script}
use Rattle.diagrams.specs.Bodies.{row, join_body, meet_body, without_body, body}
use Rattle.diagrams.specs.Work.{Valid, Set, measure}
use Rattle.diagrams.specs.Meets.{Meets}
use Rattle.diagrams.proofs.Folds.{mem_zero}
use Rattle.diagrams.proofs.Binary.{Op, Combined, Binary, both_meets, over_meets, skip_meets}
use Rattle.diagrams.proofs.Carries.{carry_meets}
use Rattle.diagrams.proofs.Follows.{follow_meets}
use Rattle.diagrams.proofs.Picks.{pick_meets}
use Rattle.diagrams.proofs.Bools.{or_split, or_none, and_self, and_none, and_all, and_other}
use Rattle.diagrams.proofs.Numbers.{two_nodes}

-- how two levels compare
abbrev pub Says : ℕ → ℕ → Ordering → Type 0
Says i j w = MatchOrdering w (i < j) (i ≡ j) (j < i)

abbrev minus : Op
minus p q = p && not q

abbrev turned : Op → Op
turned op p q = op q p

module _ (g : Moves) where
  join_is : Binary g ◌||◌ Join
  join_is = record { none = refl; valid = λ N a b x y. (x, y); deep = λ N a b. refl; set = λ N a b o. refl }

  meet_is : Binary g ◌&&◌ Meet
  meet_is = record { none = refl; valid = λ N a b x y. (x, y); deep = λ N a b. refl; set = λ N a b o. refl }

  without_is : Binary g minus Without
  without_is = record { none = refl; valid = λ N a b x y. (x, y); deep = λ N a b. refl; set = λ N a b o. refl }

  turn : (op : Op) (T : ℕ → ℕ → Task) → Binary g op T → Binary g (turned op) (λ a b. T b a)
  turn op T B = record {
    none = B.none;
    valid = λ N a b x y. B.valid N b a y x;
    deep = λ N a b. B.deep N b a ∙ add_comm (level_of N b) (level_of N a);
    set = λ N a b o. B.set N b a o;
  }

module _ (g : Moves) (laws : ChainLaws g) where
  module _ (N : List Node) (S : Sound N) (a b : ℕ) (ea : Exists N a) (eb : Exists N b) where
    abbrev la : ℕ
    la = level_of N a

    abbrev lb : ℕ
    lb = level_of N b

    -- the other way round
    swap : (P : Order → Bool) (s : Script) → Meets g P (lb + la) N s → Meets g P (la + lb) N s
    swap P s h = subst (λ (m : ℕ). Meets g P m N s) (add_comm lb la) h

    nodes : ¬ (a ≡ 0) → ¬ (b ≡ 0) → ¬ (a ≡ b) → la ≡ lb → (2 ≤ a) × (2 ≤ b)
    nodes z w ne l = (two_nodes N S a b ea eb z w ne l, two_nodes N S b a eb ea w z (λ e. ne (sym e)) (sym l))

    join_meets : Meets g (Combined g ◌||◌ N a b) (la + lb) N (join_body a b (row N a) (row N b) (eqb a 0) (eqb b 0 || eqb a b) (nat_cmp la lb))
    join_meets = by (eqb a 0) (eqb b 0 || eqb a b) (nat_cmp la lb) refl refl (ranks la lb)
      where
        one : (eqb b 0 ≡ true) ⊎ (eqb a b ≡ true) → (o : Order) → mem g N a o ≡ (mem g N a o || mem g N b o)
        one (inl e) o = rw (eqb-true b 0 e, mem_zero g N o) (sym (or-false (mem g N a o)))
        one (inr e) o = rw (← eqb-true a b e) (sym (or_self (mem g N a o)))

        by : (s t : Bool) (w : Ordering) → eqb a 0 ≡ s → (eqb b 0 || eqb a b) ≡ t → Says la lb w → Meets g (Combined g ◌||◌ N a b) (la + lb) N (join_body a b (row N a) (row N b) s t w)
        by true t w es et l = (eb, λ o. rw (eqb-true a 0 es, mem_zero g N o))
        by false true w es et l = (ea, one (or_split _ _ et))
        by false false Equal es et l =
            let q = or_none _ _ et in
            let n = nodes (eqb-false a 0 es) (eqb-false b 0 q.0) (eqb-false a b q.1) l in
            both_meets g laws ◌||◌ Join (join_is g) N S a b ea eb n.0 n.1 l
        by false false Greater es et l = over_meets g laws ◌||◌ Join (join_is g) N S a b ea eb l refl
        by false false Less es et l = swap (Combined g ◌||◌ N a b) (join_body a b (row N a) (row N b) false false Less) (over_meets g laws (turned ◌||◌) (λ p q. Join q p) (turn g ◌||◌ Join (join_is g)) N S b a eb ea l refl)

    meet_meets : Meets g (Combined g ◌&&◌ N a b) (la + lb) N (meet_body a b (row N a) (row N b) (eqb a 0 || eqb b 0) (eqb a b) (nat_cmp la lb))
    meet_meets = by (eqb a 0 || eqb b 0) (eqb a b) (nat_cmp la lb) refl refl (ranks la lb)
      where
        none : (eqb a 0 ≡ true) ⊎ (eqb b 0 ≡ true) → (o : Order) → mem g N 0 o ≡ (mem g N a o && mem g N b o)
        none (inl e) o = rw (eqb-true a 0 e, mem_zero g N o)
        none (inr e) o = rw (eqb-true b 0 e, mem_zero g N o) (and_none (mem g N a o))

        by : (s t : Bool) (w : Ordering) → (eqb a 0 || eqb b 0) ≡ s → eqb a b ≡ t → Says la lb w → Meets g (Combined g ◌&&◌ N a b) (la + lb) N (meet_body a b (row N a) (row N b) s t w)
        by true t w es et l = (omega arith, none (or_split _ _ es))
        by false true w es et l = (ea, λ o. rw (← eqb-true a b et) (and_self (mem g N a o)))
        by false false Equal es et l =
            let q = or_none _ _ es in
            let n = nodes (eqb-false a 0 q.0) (eqb-false b 0 q.1) (eqb-false a b et) l in
            both_meets g laws ◌&&◌ Meet (meet_is g) N S a b ea eb n.0 n.1 l
        by false false Greater es et l = skip_meets g laws ◌&&◌ Meet (meet_is g) N S a b ea eb l (λ p. sym (and_none p))
        by false false Less es et l = swap (Combined g ◌&&◌ N a b) (meet_body a b (row N a) (row N b) false false Less) (skip_meets g laws (turned ◌&&◌) (λ p q. Meet q p) (turn g ◌&&◌ Meet (meet_is g)) N S b a eb ea l (λ p. refl))

    without_meets : Meets g (Combined g minus N a b) (la + lb) N (without_body a b (row N a) (row N b) (eqb a 0 || eqb a b) (eqb b 0) (nat_cmp la lb))
    without_meets = by (eqb a 0 || eqb a b) (eqb b 0) (nat_cmp la lb) refl refl (ranks la lb)
      where
        none : (eqb a 0 ≡ true) ⊎ (eqb a b ≡ true) → (o : Order) → mem g N 0 o ≡ (mem g N a o && not (mem g N b o))
        none (inl e) o = rw (eqb-true a 0 e, mem_zero g N o)
        none (inr e) o = mem_zero g N o ∙ (rw (← eqb-true a b e) (and_other (mem g N a o)))

        by : (s t : Bool) (w : Ordering) → (eqb a 0 || eqb a b) ≡ s → eqb b 0 ≡ t → Says la lb w → Meets g (Combined g minus N a b) (la + lb) N (without_body a b (row N a) (row N b) s t w)
        by true t w es et l = (omega arith, none (or_split _ _ es))
        by false true w es et l = (ea, λ o. rw (eqb-true b 0 et, mem_zero g N o) (and_all (mem g N a o)))
        by false false Equal es et l =
            let q = or_none _ _ es in
            let n = nodes (eqb-false a 0 q.0) (eqb-false b 0 et) (eqb-false a b q.1) l in
            both_meets g laws minus Without (without_is g) N S a b ea eb n.0 n.1 l
        by false false Greater es et l = over_meets g laws minus Without (without_is g) N S a b ea eb l refl
        by false false Less es et l = swap (Combined g minus N a b) (without_body a b (row N a) (row N b) false false Less) (skip_meets g laws (turned minus) (λ p q. Without q p) (turn g minus Without (without_is g)) N S b a eb ea l (λ p. refl))

  -- the rule of each task ends in its set
  pub meets : (N : List Node) (t : Task) → Sound N → Valid N t → Meets g (Set g N t) (measure N t) N (body g N t)
  unfolding body
  meets N (Join a b) S v = join_meets N S a b v.0 v.1
  meets N (Meet a b) S v = meet_meets N S a b v.0 v.1
  meets N (Without a b) S v = without_meets N S a b v.0 v.1
  meets N (Carry a h) S v = carry_meets g laws N S a h v
  meets N (Follow a b) S v = follow_meets g N S a b v.0 v.1
  meets N (Pick a k z) S v = pick_meets g laws N S a k z v.0 v.1 v.2 v.3
