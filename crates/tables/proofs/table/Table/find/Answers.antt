use Rattle.std.proofs.Common.{◌≡◌, ℕ, ◌-◌, ◌<◌, ◌≤◌, Bool, true, false, get_or, Some, None, Option, sym, refl, ap, ◌∙◌, subst, arith}
use Rattle.std.specs.Option.{unwrap_or}
use Rattle.diagrams.specs.Table.{at}
use Rattle.diagrams.specs.Rules.{is_node}
use Rattle.tables.specs.declared.table.Table.{Table}
use Rattle.tables.specs.Hashing.{none}
use Rattle.tables.specs.Rows.{rows, found}
use Rattle.tables.proofs.Rows.{sound_of, length_rows, at_rows}
use Rattle.tables.proofs.Walks.{Walk, walk_begin, walk_on, walk_less, walk_hit, walk_end}
use Rattle.tables.proofs.table.Table.find.Goals as goal

-- a walk that has come to a number
module _ (t : Table) (x y lo hi v : ℕ) (o : Option ℕ) (u : Walk (rows t) x y lo hi o) (is : o ≡ Some v) where
  here : Walk (rows t) x y lo hi (Some v)
  here = subst (Walk (rows t) x y lo hi) is u

  least : 2 ≤ v
  least = (here.some v refl).0

  inside : v - 2 < t.len
  inside = omega (arith, length_rows t, (here.some v refl).1)

  within : v - 2 < 2046
  within = omega (arith, inside, t.within)

  same : (b : Bool) → b ≡ is_node x y lo hi (at t.nodes (v - 2)) → is_node x y lo hi (at (rows t) (v - 2)) ≡ b
  same b e = ap (is_node x y lo hi) (at_rows t (v - 2) inside) ∙ sym e

  less : unwrap_or (get_or t.next (v - 2) none) 0 < unwrap_or o 0
  unfolding rows
  less = rw is (by (get_or t.next (v - 2) none) refl)
    where
      by : (p : Option ℕ) → get_or t.next (v - 2) none ≡ p → unwrap_or (get_or t.next (v - 2) none) 0 < v
      by None e = rw e (omega (arith, least))
      by (Some w) e = rw e (walk_less (rows t) x y lo hi t.next v t.linked here w e)

  on : false ≡ is_node x y lo hi (at t.nodes (v - 2)) → Walk (rows t) x y lo hi (get_or t.next (v - 2) none)
  unfolding rows
  on e = walk_on (rows t) x y lo hi t.next v t.linked here (same false e)

  hit : true ≡ is_node x y lo hi (at t.nodes (v - 2)) → Some v ≡ found (rows t) x y lo hi
  hit e = walk_hit (rows t) x y lo hi v (sound_of t) here (same true e)

pub loop-next-init : goal.loop-next-init
unfolding rows
loop-next-init c =
    walk_begin _ _ _ _ _ _ _ c.args.self.now.headed c.bucket.ensures.is c.bucket.ensures.below

pub overflow_sub-i : goal.overflow_sub-i
overflow_sub-i c = least _ _ _ _ _ _ _ c.loop-next.invariant c.in-Some.is

pub bounds-self-i : goal.bounds-self-i
bounds-self-i c = within _ _ _ _ _ _ _ c.loop-next.invariant c.in-Some.is

pub returns-then-eq : goal.returns-then-eq
returns-then-eq c = ap (λ (n : ℕ). Some n) c.from.ensures ∙ hit _ _ _ _ _ _ _ c.loop-next.invariant c.in-Some.is (rw c.branch-self.ensures at c.if-eq.ensures)

pub bounds-self-i-in-Some : goal.bounds-self-i-in-Some
bounds-self-i-in-Some c = within _ _ _ _ _ _ _ c.loop-next.invariant c.in-Some.is

pub loop-next-smaller : goal.loop-next-smaller
loop-next-smaller c = less _ _ _ _ _ _ _ c.loop-next.invariant c.in-Some.is

pub loop-next-preserved : goal.loop-next-preserved
loop-next-preserved c = on _ _ _ _ _ _ _ c.loop-next.invariant c.in-Some.is (rw c.branch-self.ensures at c.if-eq.ensures)

end : (t : Table) (x y lo hi : ℕ) (o : Option ℕ) → Walk (rows t) x y lo hi o → o ≡ None → None ≡ found (rows t) x y lo hi
end t x y lo hi o w is = walk_end (rows t) x y lo hi (subst (Walk (rows t) x y lo hi) is w)

pub returns : goal.returns
returns c = end _ _ _ _ _ _ c.loop-next.invariant c.in_default.is
