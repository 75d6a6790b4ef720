-- What is answered outright, and what tells tasks apart. Assumes nothing.
use Rattle.std.proofs.Common.{◌≡◌, ℕ, Bool, true, false, cond, ◌||◌, eqb, ltb, List, Some, None, refl, ◌∙◌, ap₂, arith}
use Rattle.orders.specs.declared.order.Order.{Order}
use Rattle.orders.specs.Orders.{standing}
use Rattle.orders.specs.Dimension.{dimension}
use Rattle.diagrams.specs.declared.Node.{Node}
use Rattle.diagrams.specs.declared.Task.{Task}
use Rattle.diagrams.specs.declared.Task.TheVariants.{Join, Meet, Without, Carry, Follow, Pick}
use Rattle.std.specs.declared.cmp.Ordering.{Ordering}
use Rattle.std.specs.declared.cmp.Ordering.TheVariants.{Less, Equal, Greater}
use Rattle.std.specs.Ordering.{nat_cmp}
use Rattle.diagrams.specs.Moves.{Moves, same}
use Rattle.diagrams.specs.Table.{x_of, level_of}
use Rattle.diagrams.specs.Script.{Script, answer, make, enter}
use Rattle.diagrams.specs.Bodies.{row, join_body, meet_body, without_body, carry_body, follow_body, pick_body, from_of, body}
use Rattle.diagrams.specs.Outright.{answered, outright}

pub answered_only : (s : Script) (v : ℕ) → answered s ≡ Some v → s ≡ answer v
answered_only (answer r) v e = cc
answered_only (make x y lo hi k) v e = let z : ◌≡◌ {A = ℕ} 0 1 = cc in absurd (omega arith)
answered_only (enter t k) v e = let z : ◌≡◌ {A = ℕ} 0 1 = cc in absurd (omega arith)

-- two tests of which the first that passes answers
pub no_test : (s t : Bool) (u v : ℕ) → cond s (Some u) (cond t (Some v) None) ≡ None → (s ≡ false) × (t ≡ false)
no_test true t u v e = let z : ◌≡◌ {A = ℕ} 0 1 = cc in absurd (omega arith)
no_test false true u v e = let z : ◌≡◌ {A = ℕ} 0 1 = cc in absurd (omega arith)
no_test false false u v e = (refl, refl)

pub no_pick : (s t u : Bool) (a : ℕ) → cond s (Some a) (cond t (cond u (Some 1) (Some 0)) None) ≡ None → (s ≡ false) × (t ≡ false)
no_pick true t u a e = let z : ◌≡◌ {A = ℕ} 0 1 = cc in absurd (omega arith)
no_pick false true true a e = let z : ◌≡◌ {A = ℕ} 0 1 = cc in absurd (omega arith)
no_pick false true false a e = let z : ◌≡◌ {A = ℕ} 0 1 = cc in absurd (omega arith)
no_pick false false u a e = (refl, refl)

module _ (g : Moves) where
  module _ (a b : ℕ) (p q : Node) where
    join_answered : (s t : Bool) (w : Ordering) → answered (join_body a b p q s t w) ≡ cond s (Some b) (cond t (Some a) None)
    join_answered true t w = refl
    join_answered false true w = refl
    join_answered false false Equal = refl
    join_answered false false Greater = refl
    join_answered false false Less = refl

    meet_answered : (s t : Bool) (w : Ordering) → answered (meet_body a b p q s t w) ≡ cond s (Some 0) (cond t (Some a) None)
    meet_answered true t w = refl
    meet_answered false true w = refl
    meet_answered false false Equal = refl
    meet_answered false false Greater = refl
    meet_answered false false Less = refl

    without_answered : (s t : Bool) (w : Ordering) → answered (without_body a b p q s t w) ≡ cond s (Some 0) (cond t (Some a) None)
    without_answered true t w = refl
    without_answered false true w = refl
    without_answered false false Equal = refl
    without_answered false false Greater = refl
    without_answered false false Less = refl

    follow_answered : (s t : Bool) → answered (follow_body g q a b s t) ≡ cond s (Some 0) (cond t (Some a) None)
    follow_answered true t = refl
    follow_answered false true = refl
    follow_answered false false = refl

  carry_answered : (p : Node) (a : ℕ) (h : Order) (s t u : Bool) → answered (carry_body g p a h s t u) ≡ cond s (Some 0) (cond t (Some a) None)
  carry_answered p a h true t u = refl
  carry_answered p a h false true u = refl
  carry_answered p a h false false true = refl
  carry_answered p a h false false false = refl

  pick_answered : (p : Node) (a k z from : ℕ) (s t u : Bool) → answered (pick_body p a k z from s t u) ≡ cond s (Some a) (cond t (cond u (Some 1) (Some 0)) None)
  pick_answered p a k z from true t u = refl
  pick_answered p a k z from false true true = refl
  pick_answered p a k z from false true false = refl
  pick_answered p a k z from false false u = refl

  -- a task is answered outright just where its rule is an answer
  pub outright_is : (N : List Node) (t : Task) → answered (body g N t) ≡ outright t
  unfolding body
  outright_is N (Join a b) = join_answered a b (row N a) (row N b) (eqb a 0) (eqb b 0 || eqb a b) (nat_cmp (level_of N a) (level_of N b))
  outright_is N (Meet a b) = meet_answered a b (row N a) (row N b) (eqb a 0 || eqb b 0) (eqb a b) (nat_cmp (level_of N a) (level_of N b))
  outright_is N (Without a b) = without_answered a b (row N a) (row N b) (eqb a 0 || eqb a b) (eqb b 0) (nat_cmp (level_of N a) (level_of N b))
  outright_is N (Carry a h) = carry_answered (row N a) a h (eqb a 0) (same h standing) (ltb (x_of N a) (dimension h))
  outright_is N (Follow a b) = follow_answered a b (row N a) (row N b) (eqb a 0 || eqb b 0) (eqb b 1)
  outright_is N (Pick a k z) = pick_answered (row N a) a k z (from_of g (row N a) z) (eqb a 0) (eqb a 1) (eqb k z)

  pub outright_body : (N : List Node) (t : Task) (v : ℕ) → outright t ≡ Some v → body g N t ≡ answer v
  outright_body N t v e = answered_only (body g N t) v (outright_is N t ∙ e)

  -- the rule of each kind where it is not outright
  pub join_works : (N : List Node) (a b : ℕ) → outright (Join a b) ≡ None → body g N (Join a b) ≡ join_body a b (row N a) (row N b) false false (nat_cmp (level_of N a) (level_of N b))
  unfolding body
  join_works N a b e =
      let f = no_test (eqb a 0) (eqb b 0 || eqb a b) _ _ e in
      ap₂ (λ (s t : Bool). join_body a b (row N a) (row N b) s t (nat_cmp (level_of N a) (level_of N b))) f.0 f.1

  pub meet_works : (N : List Node) (a b : ℕ) → outright (Meet a b) ≡ None → body g N (Meet a b) ≡ meet_body a b (row N a) (row N b) false false (nat_cmp (level_of N a) (level_of N b))
  unfolding body
  meet_works N a b e =
      let f = no_test (eqb a 0 || eqb b 0) (eqb a b) _ _ e in
      ap₂ (λ (s t : Bool). meet_body a b (row N a) (row N b) s t (nat_cmp (level_of N a) (level_of N b))) f.0 f.1

  pub without_works : (N : List Node) (a b : ℕ) → outright (Without a b) ≡ None → body g N (Without a b) ≡ without_body a b (row N a) (row N b) false false (nat_cmp (level_of N a) (level_of N b))
  unfolding body
  without_works N a b e =
      let f = no_test (eqb a 0 || eqb a b) (eqb b 0) _ _ e in
      ap₂ (λ (s t : Bool). without_body a b (row N a) (row N b) s t (nat_cmp (level_of N a) (level_of N b))) f.0 f.1

  pub carry_works : (N : List Node) (a : ℕ) (h : Order) → outright (Carry a h) ≡ None → body g N (Carry a h) ≡ carry_body g (row N a) a h false false (ltb (x_of N a) (dimension h))
  unfolding body
  carry_works N a h e =
      let f = no_test (eqb a 0) (same h standing) _ _ e in
      ap₂ (λ (s t : Bool). carry_body g (row N a) a h s t (ltb (x_of N a) (dimension h))) f.0 f.1

  pub follow_works : (N : List Node) (a b : ℕ) → outright (Follow a b) ≡ None → body g N (Follow a b) ≡ follow_body g (row N b) a b false false
  unfolding body
  follow_works N a b e =
      let f = no_test (eqb a 0 || eqb b 0) (eqb b 1) _ _ e in
      ap₂ (λ (s t : Bool). follow_body g (row N b) a b s t) f.0 f.1

  pub pick_works : (N : List Node) (a k z : ℕ) → outright (Pick a k z) ≡ None → body g N (Pick a k z) ≡ pick_body (row N a) a k z (from_of g (row N a) z) false false (eqb k z)
  unfolding body
  pick_works N a k z e =
      let f = no_pick (eqb a 0) (eqb a 1) (eqb k z) a e in
      ap₂ (λ (s t : Bool). pick_body (row N a) a k z (from_of g (row N a) z) s t (eqb k z)) f.0 f.1
