-- What the code answered, as equations on the rule, and what that means in sets of orders. Assumes nothing.
use Rattle.std.proofs.Common.{◌≡◌, ℕ, ◌+◌, ◌-◌, ◌^◌, min, List, IsErrAnd, Ok, Err, Result, sym, refl, ap, ◌∙◌, subst, arith}
use base.Stored.{Coded-set}
use Rattle.std.specs.Coded.{coded_list}
use Rattle.orders.specs.contracts.refusal.Refusal as refusal
use Rattle.diagrams.specs.contracts.Node as node
use native.Mathlib.Bridge.{le_prop}
use native.Mathlib.Nat.{ℕ_set}
use Rattle.orders.specs.declared.refusal.Refusal.{Refusal}
use Rattle.orders.specs.declared.refusal.Refusal.TheVariants.{NoRoom}
use Rattle.orders.specs.Chains.{ChainLaws}
use Rattle.diagrams.specs.declared.Node.{Node}
use Rattle.diagrams.specs.declared.Task.{Task}
use Rattle.diagrams.specs.Moves.{Moves}
use Rattle.diagrams.specs.Table.{Sound}
use Rattle.diagrams.specs.Rules.{Outcome, done, full, Made, Full}
use Rattle.diagrams.specs.Rules as Rules
use Rattle.diagrams.specs.Work.{Valid, Set, task}
use Rattle.diagrams.proofs.Engine.{task_makes}
use Rattle.tables.specs.Rows.{Makes}
use Rattle.engine.specs.declared.found.Found.{Found}
use Rattle.engine.specs.Answers.{Counts, As}

nodes_set : IsSet (List Node)
nodes_set = Coded-set (coded_list node.the_row.coded)

refusal_set : IsSet Refusal
refusal_set = Coded-set refusal.the_row.coded

-- an answer of the code, as an equation on the rule
module _ (B : Type 0) where
  counts_prop : (e n : ℕ) → IsProp (Counts B e n)
  counts_prop e n p q = λ i. record {
    least = le_prop p.least q.least i;
    most = le_prop p.most q.most i;
    just = λ b. ℕ_set _ _ (p.just b) (q.just b) i;
  }

  -- the code answers so in one way at most
  pub as_prop : (o : Outcome) (N : List Node) (r : Result (Found ℕ) Refusal) → IsProp (As B o N r)
  as_prop (done M s n) N (Ok j) = hlevel (nodes_set, ℕ_set, counts_prop)
  as_prop (done M s n) N (Err e) = hlevel nodes_set
  as_prop (full M) N (Ok j) = hlevel nodes_set
  as_prop (full M) N (Err e) = hlevel (nodes_set, refusal_set)

  pub record Done (o : Outcome) (N : List Node) (j : Found ℕ) : Type 0 where
    pub n : ℕ
    pub is : o ≡ done N j.set n
    pub counts : Counts B j.entries n

  pub as_done : (o : Outcome) (N : List Node) (j : Found ℕ) → As B o N (Ok j) → Done o N j
  as_done (done M s n) N j h = record {
    n = n;
    is = ap (λ X. done X s n) (sym h.0) ∙ ap (λ v. done N v n) (sym h.1);
    counts = h.2;
  }
  as_done (full M) N j h = absurd h

  pub as_full : (o : Outcome) (N : List Node) (e : Refusal) → As B o N (Err e) → (o ≡ full N) × (e ≡ NoRoom)
  as_full (done M s n) N e h = absurd h
  as_full (full M) N e h = (ap full (sym h.0), h.1)

  pub as_ok : {o : Outcome} {N : List Node} {j : Found ℕ} → Done o N j → As B o N (Ok j)
  as_ok {o} {N} {j} d = subst (λ u. As B u N (Ok j)) (sym d.is) (refl, refl, d.counts)

  -- a refusal that is passed on
  pub as_err : {o : Outcome} {N : List Node} (e : Refusal) (r : Result (Found ℕ) Refusal) → IsErrAnd r (λ y. y ≡ e) → o ≡ full N → e ≡ NoRoom → As B o N r
  as_err {o} {N} e (Ok j) t f x = absurd t
  as_err {o} {N} e (Err y) t f x = subst (λ u. As B u N (Err y)) (sym f) (refl, t ∙ x)

pub makes_done : (o : Outcome) (M : List Node) (n r : ℕ) → Makes o M n (Ok r) → o ≡ done M r n
makes_done (done K s m) M n r h = ap (λ X. done X s m) (sym h.0) ∙ ap (λ v. done M v m) (sym h.1) ∙ ap (done M r) h.2
makes_done (full K) M n r h = absurd h

pub makes_full : (o : Outcome) (M : List Node) (n : ℕ) (e : Refusal) → Makes o M n (Err e) → (o ≡ full M) × (e ≡ NoRoom)
makes_full (done K s m) M n e h = absurd h
makes_full (full K) M n e h = (ap full (sym h.0), h.1)

-- entries added up, in 64 bits
pub count_more : (B : Type 0) (e f a b k : ℕ) → Counts B e a → Counts B f b → k ≡ min (e + f) (2 ^ 64 - 1) → Counts B k (a + b)
count_more B e f a b k p q is = record {
  least = omega (arith, p.least, q.least);
  most = omega (arith, p.most, q.most);
  just = λ x. let y = p.just x in let z = q.just x in omega arith;
}

-- a task that was solved: its number stands for its set, or the table is full
module _ (g : Moves) (laws : ChainLaws g) (cap : ℕ) (B : Type 0) (N : List Node) (S : Sound N) (t : Task) (v : Valid N t) (K : List Node) where
  pub solved_made : (j : Found ℕ) → As B (task g cap N t) K (Ok j) → Made g N (Set g N t) K j.set
  solved_made j h = subst (Rules.Makes g cap N (Set g N t)) (as_done B (task g cap N t) K j h).is (task_makes g laws cap N t S v)

  pub solved_full : (x : Refusal) → As B (task g cap N t) K (Err x) → Full cap N K
  solved_full x h = subst (Rules.Makes g cap N (Set g N t)) (as_full B (task g cap N t) K x h).0 (task_makes g laws cap N t S v)
