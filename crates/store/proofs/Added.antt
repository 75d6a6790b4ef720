-- A node that is found or added by its four values. Assumes nothing.
use Rattle.std.proofs.Common.{◌≡◌, ℕ, ◌^◌, length, ◌<◌, ◌≤◌, Bool, true, false, ltb, List, Ok, Err, Result, sym, refl, ap, ◌∙◌, subst, arith}
use Rattle.std.proofs.lemmas.Bool.Decides.{nat_tests}
use Rattle.orders.specs.declared.order.Order.{Order}
use Rattle.orders.specs.declared.refusal.Refusal.{Refusal}
use Rattle.orders.specs.declared.refusal.Refusal.TheVariants.{BadNode}
use Rattle.diagrams.specs.declared.Branch.{Branch}
use Rattle.diagrams.specs.declared.Node.{Node}
use Rattle.diagrams.specs.Moves.{Moves}
use Rattle.diagrams.specs.Table.{Extends, Sound}
use Rattle.diagrams.specs.Rules.{Outcome, done, full, node, Asks, NodeSet}
use Rattle.diagrams.specs.Rules as rules
use Rattle.diagrams.proofs.Pushes.{node_makes}
use Rattle.tables.specs.Rows.{Makes}
use Rattle.tables.specs.Rules.{stands}
use Rattle.store.specs.Views.{View, room_of}
use Rattle.store.specs.Steps.{declined, adds, worked, step, node_asked, keeps_rules}

module _ (w : View) (x y lo hi : ℕ) where
  -- a plan has at most 16 pieces
  pub keeps_stands : keeps_rules w x y lo hi ≡ stands w.nodes w.plan.pieces x y lo hi
  unfolding keeps_rules stands
  keeps_stands = by (ltb w.plan.pieces x) refl
    where
      by : (b : Bool) → ltb w.plan.pieces x ≡ b → keeps_rules w x y lo hi ≡ stands w.nodes w.plan.pieces x y lo hi
      by true e = let most = w.plan.most in grind (arith, nat_tests)
      by false e = let most = w.plan.most in grind (arith, nat_tests)

  -- what a table answers of a branch with these values
  pub keeps_by : (N : List Node) (pieces : ℕ) (a : Branch) (r b : Bool) → N ≡ w.nodes → pieces ≡ w.plan.pieces → a ≡ record { x = x; y = y; lo = lo; hi = hi }
      → r ≡ stands N pieces a.x a.y a.lo a.hi → r ≡ b → keeps_rules w x y lo hi ≡ b
  keeps_by N pieces a r b n p e s t =
      keeps_stands
      ∙ sym (ap (λ M. stands M w.plan.pieces x y lo hi) n)
      ∙ sym (ap (λ k. stands N k x y lo hi) p)
      ∙ sym (ap (λ (q : Branch). stands N pieces q.x q.y q.lo q.hi) e)
      ∙ sym s ∙ t

  -- values that keep the rules may be asked for
  pub keeps_asks : keeps_rules w x y lo hi ≡ true → Asks w.nodes x y lo hi × (x ≤ 16) × (1 ≤ hi)
  unfolding keeps_rules
  keeps_asks e =
      let most = w.plan.most in (
        record {
          x_max = grind (arith, nat_tests);
          y_min = grind (arith, nat_tests);
          y_below = grind (arith, nat_tests);
          lo_there = grind (arith, nat_tests);
          hi_there = grind (arith, nat_tests);
          lo_level = grind (arith, nat_tests);
          hi_x = grind (arith, nat_tests);
        },
        grind (arith, nat_tests),
        grind (arith, nat_tests),
      )

  -- values that are too large for a node's don't
  pub large_breaks : length w.nodes ≤ 2046 → ((x < 2 ^ 8) × (y < 2 ^ 8) × (lo < 2 ^ 32) × (hi < 2 ^ 32) → ⊥) → keeps_rules w x y lo hi ≡ false
  large_breaks few large = by (keeps_rules w x y lo hi) refl
    where
      by : (b : Bool) → keeps_rules w x y lo hi ≡ b → b ≡ false
      by false e = refl
      by true e =
          let a = keeps_asks e in
          absurd (large (omega (arith, a.1), omega (arith, a.0.y_below, a.1), omega (arith, a.0.lo_there), omega (arith, a.0.hi_there)))

  pub add_fine : (g : Moves) (o : Outcome) → keeps_rules w x y lo hi ≡ true → node (room_of w) w.nodes x y lo hi 0 ≡ o → worked w o ≡ step g w (adds x y lo hi)
  unfolding node_asked
  add_fine g o e f = rw e (ap (worked w) (sym f))

  pub add_bad : (g : Moves) → keeps_rules w x y lo hi ≡ false → step g w (adds x y lo hi) ≡ (w, declined BadNode)
  unfolding node_asked
  add_bad g e = rw e refl

made_grown : (g : Moves) (cap : ℕ) (N : List Node) (P : Order → Bool) (o : Outcome) (M : List Node) (r : Result ℕ Refusal) → rules.Makes g cap N P o → Makes o M 0 r → Extends N M
made_grown g cap N P (done K s n) M (Ok j) made h = subst (Extends N) (sym h.0) made.extends
made_grown g cap N P (done K s n) M (Err e) made h = absurd h
made_grown g cap N P (full K) M (Ok j) made h = absurd h
made_grown g cap N P (full K) M (Err e) made h = subst (Extends N) (sym h.0) made.extends

-- the table only grows
pub add_grown : (g : Moves) (cap : ℕ) (N : List Node) → Sound N → (x y lo hi : ℕ) → Asks N x y lo hi → (M : List Node) (r : Result ℕ Refusal) → Makes (node cap N x y lo hi 0) M 0 r → Extends N M
add_grown g cap N S x y lo hi asks M r h = made_grown g cap N (NodeSet g N x y lo hi) (node cap N x y lo hi 0) M r (node_makes g cap N S x y lo hi 0 asks) h
