-- The set of each kind of work, in words of orders. Assumes nothing.
use Rattle.std.proofs.Common.{◌≡◌, ℕ, true, not, eqb, ◌↔◌, List, sym, refl, ap, ◌∙◌, subst, arith, eq-eqb, eqb-true}
use Rattle.orders.specs.declared.order.Order.{Order}
use Rattle.orders.specs.Orders.{place, standing, then, inverse}
use Rattle.orders.specs.Chains.{ChainLaws}
use Rattle.orders.specs.Group.{standing-then, group}
use Rattle.diagrams.specs.declared.Node.{Node}
use Rattle.diagrams.specs.declared.Task.{Task}
use Rattle.diagrams.specs.declared.Task.TheVariants.{Join, Meet, Without, Carry, Follow, Pick}
use Rattle.diagrams.specs.Moves.{Moves}
use Rattle.diagrams.specs.Table.{Sound, mem, In}
use Rattle.diagrams.specs.Rules.{done, Made, Makes}
use Rattle.diagrams.specs.Work.{Valid, Set, Sought, task}
use Rattle.diagrams.proofs.Follows.{followed_is}
use Rattle.diagrams.proofs.Sets.{in_one}
use Rattle.diagrams.proofs.Engine.{task_makes}
use Rattle.diagrams.proofs.Bools.{or_split, or_either, and_is, not_is}
use Rattle.diagrams.proofs.Groups.{redo}

module _ (g : Moves) (N : List Node) (S : Sound N) where
  -- the truth table of a set says what its words say
  pub set_is : (t : Task) → Valid N t → (o : Order) → (Set g N t o ≡ true) ↔ Sought g N t o
  set_is (Join a b) v o = (or_split _ _, or_either _ _)
  set_is (Meet a b) v o = and_is (mem g N a o) (mem g N b o)
  set_is (Without a b) v o =
      let both = and_is (mem g N a o) (not (mem g N b o)) in
      (λ h. ((both.0 h).0, (not_is (mem g N b o)).0 (both.0 h).1), λ h. both.1 (h.0, (not_is (mem g N b o)).1 h.1))
  set_is (Carry a h) v o = (
    λ i. (then o (inverse h), (i, sym (redo o h))),
    λ r. ap (mem g N a) (back_out r.0 r.1.1) ∙ r.1.0,
  )
    where
      back_out : (α : Order) → o ≡ then α h → then o (inverse h) ≡ α
      back_out α e = simp (e, group)
  set_is (Follow a b) v o = (to, from)
    where
      to : Set g N (Follow a b) o ≡ true → Sought g N (Follow a b) o
      to i =
          let r = (followed_is g N S a b v.0 v.1 o).0 i in
          (then o (inverse r.0), (r.0, (r.1.1, (r.1.0, sym (redo o r.0)))))

      from : Sought g N (Follow a b) o → Set g N (Follow a b) o ≡ true
      from r =
          let e : then o (inverse r.1.0) ≡ r.0 = simp (r.1.1.1.1, group) in
          (followed_is g N S a b v.0 v.1 o).1 r.1.0 r.1.1.1.0 (ap (mem g N a) e ∙ r.1.1.0)
  set_is (Pick a k p) v o =
      let both = and_is (mem g N a o) (eqb (place o k) p) in
      (λ h. ((both.0 h).0, eqb-true _ _ (both.0 h).1), λ h. both.1 (h.0, eq-eqb _ _ h.1))

module _ (g : Moves) (laws : ChainLaws g) (N : List Node) (S : Sound N) where
  -- what a task has made
  pub task_made : (cap : ℕ) (t : Task) → Valid N t → (M : List Node) (r n : ℕ) → task g cap N t ≡ done M r n → Made g N (Set g N t) M r
  task_made cap t v M r n e = subst (Makes g cap N (Set g N t)) e (task_makes g laws cap N t S v)

  -- the answer of a task has just the orders that it is to find
  pub answer_is : (t : Task) → Valid N t → (cap : ℕ) (M : List Node) (r n : ℕ) → task g cap N t ≡ done M r n → (o : Order) → In g M r o ↔ Sought g N t o
  answer_is t v cap M r n e o =
      let m = (task_made cap t v M r n e).means o in
      let w = set_is g N S t v o in
      (λ i. w.0 (sym m ∙ i), λ i. m ∙ w.1 i)

  pub single_is : (h : Order) (cap : ℕ) (M : List Node) (r n : ℕ) → task g cap N (Carry 1 h) ≡ done M r n → (o : Order) → In g M r o ↔ (o ≡ h)
  single_is h cap M r n e o =
      let w = answer_is (Carry 1 h) (omega arith) cap M r n e o in
      (λ i. let s = w.0 i in out s.0 ((in_one g N s.0).0 s.1.0) s.1.1, λ q. w.1 (standing, ((in_one g N standing).1 refl, q ∙ sym (standing-then h))))
    where
      out : (α : Order) → α ≡ standing → o ≡ then α h → o ≡ h
      out α p q = q ∙ ap (λ (c : Order). then c h) p ∙ standing-then h
