-- From the engine's answer to the store's. Assumes nothing.
use Rattle.std.proofs.Common.{◌≡◌, ℕ, ◌≤◌, Bool, true, false, ◌↔◌, List, Some, None, Ok, Err, Option, Result, sym, refl, ap, ◌∙◌, subst, arith}
use Rattle.std.proofs.lemmas.Bool.Decides.{nat_tests}
use Rattle.orders.specs.declared.order.Order.{Order}
use Rattle.orders.specs.declared.refusal.Refusal.{Refusal}
use Rattle.orders.specs.Chains.{ChainLaws}
use Rattle.diagrams.specs.declared.Node.{Node}
use Rattle.diagrams.specs.declared.Task.{Task}
use Rattle.diagrams.specs.Moves.{Moves}
use Rattle.diagrams.specs.Table.{Exists, Sound, Extends, In}
use Rattle.diagrams.specs.Rules.{Outcome, done, full, Makes}
use Rattle.diagrams.specs.Work.{Valid, Set, task}
use Rattle.diagrams.proofs.Words.{answer_is, single_is}
use Rattle.diagrams.proofs.Engine.{task_makes}
use Rattle.engine.specs.Answers.{As, Once}
use Rattle.engine.specs.declared.found.Found.{Found as Solved}
use Rattle.store.specs.declared.shapes.Handle.{Handle}
use Rattle.store.specs.declared.shapes.SetCall.{SetCall}
use Rattle.store.specs.declared.shapes.SetCall.TheVariants.{Single, Join, Meet, Without, Carry, Follow, Pick}
use Rattle.store.specs.Views.{View, room_of}
use Rattle.store.specs.Questions.{ask, or_else, answered, number_asked, handle_asked, spot_asked, call_asked, task_of}
use Rattle.store.specs.Steps.{sets, worked, unless, step, bare, entries_in, entries_if}
use Rattle.store.specs.Does.{Wanted}

-- a question that is left declines nothing: so its test holds
asked_true : (b : Bool) (e : Refusal) (rest : Option Refusal) → ask b e rest ≡ None → (b ≡ true) × (rest ≡ None)
asked_true true e rest h = (refl, h)
asked_true false e rest h = let z : ◌≡◌ {A = ℕ} 0 1 = cc in absurd (omega arith)

pub both_fine : (p q : Option Refusal) → or_else p q ≡ None → (p ≡ None) × (q ≡ None)
both_fine None q h = (refl, h)
both_fine (Some e) q h = let z : ◌≡◌ {A = ℕ} 0 1 = cc in absurd (omega arith)

module _ (w : View) where
  pub number_there : (n : ℕ) → number_asked w n ≡ None → Exists w.nodes n
  unfolding number_asked
  number_there n h = grind (arith, nat_tests)

  pub handle_there : (h : Handle) → handle_asked w h ≡ None → (h.season ≡ w.season) × Exists w.nodes h.number
  unfolding handle_asked
  handle_there h e = let p = asked_true _ _ _ e in (grind (arith, nat_tests), number_there h.number p.1)

  both_there : (a b : Handle) → or_else (handle_asked w a) (handle_asked w b) ≡ None → Exists w.nodes a.number × Exists w.nodes b.number
  both_there a b h = let p = both_fine _ _ h in ((handle_there a p.0).1, (handle_there b p.1).1)

  spot_there : (k p : ℕ) → spot_asked w k p ≡ None → (k ≤ 16) × (1 ≤ p) × (p ≤ 16)
  unfolding spot_asked
  spot_there k p h = let most = w.plan.most in grind (arith, nat_tests)

  -- a call whose questions are answered may be worked
  pub valid : (call : SetCall Handle ℕ) → call_asked w call ≡ None → Valid w.nodes (task_of call)
  valid (Single o) h = omega arith
  valid (Join a b) h = both_there a b h
  valid (Meet a b) h = both_there a b h
  valid (Without a b) h = both_there a b h
  valid (Carry a o) h = (handle_there a (both_fine _ _ h).0).1
  valid (Follow a b) h = both_there a b h
  valid (Pick a k p) h = let q = both_fine _ _ h in let s = spot_there k p q.1 in ((handle_there a q.0).1, s.0, s.1, s.2)

pub once_is : (o : Option ℕ) (j : Solved ℕ) (v : ℕ) → Once o (Ok j) → o ≡ Some v → j.entries ≡ 1
once_is None j v h e = let z : ◌≡◌ {A = ℕ} 0 1 = cc in absurd (omega arith)
once_is (Some x) j v h e = h

module _ (g : Moves) (w : View) (call : SetCall Handle ℕ) (fine : call_asked w call ≡ None) where
  -- what the store is and says once the rule has worked
  pub step_is : (o : Outcome) → task g (room_of w) w.nodes (task_of call) ≡ o → worked w o ≡ step g w (sets call)
  step_is o e = ap (worked w) (sym e) ∙ sym (ap (λ a. unless a w (worked w (task g (room_of w) w.nodes (task_of call)))) fine)

  pub bare_is : (o : Outcome) → task g (room_of w) w.nodes (task_of call) ≡ o → bare g w (sets call) ≡ entries_in o
  bare_is o e = ap (λ a. entries_if a (entries_in (task g (room_of w) w.nodes (task_of call)))) fine ∙ ap entries_in e

  -- and what its answer means
  pub set_is : ChainLaws g → Sound w.nodes → (M : List Node) (r n : ℕ) → task g (room_of w) w.nodes (task_of call) ≡ done M r n → (o : Order) → In g M r o ↔ Wanted g w call o
  set_is laws S M r n e = wanted call (valid w call fine) e
    where
      wanted : (c : SetCall Handle ℕ) → Valid w.nodes (task_of c) → task g (room_of w) w.nodes (task_of c) ≡ done M r n → (o : Order) → In g M r o ↔ Wanted g w c o
      wanted (Single h) v e = single_is g laws w.nodes S h (room_of w) M r n e
      wanted (Join a b) v e = answer_is g laws w.nodes S (task_of (Join a b)) v (room_of w) M r n e
      wanted (Meet a b) v e = answer_is g laws w.nodes S (task_of (Meet a b)) v (room_of w) M r n e
      wanted (Without a b) v e = answer_is g laws w.nodes S (task_of (Without a b)) v (room_of w) M r n e
      wanted (Carry a h) v e = answer_is g laws w.nodes S (task_of (Carry a h)) v (room_of w) M r n e
      wanted (Follow a b) v e = answer_is g laws w.nodes S (task_of (Follow a b)) v (room_of w) M r n e
      wanted (Pick a k p) v e = answer_is g laws w.nodes S (task_of (Pick a k p)) v (room_of w) M r n e

-- a question's answer, taken apart
pub accepted : {A : Type 0} (a : Option Refusal) (v t : A) → Ok t ≡ answered a v → (a ≡ None) × (t ≡ v)
accepted None v t e = (refl, cc)
accepted (Some x) v t e = let z : ◌≡◌ {A = ℕ} 0 1 = cc in absurd (omega arith)

-- the table only grows
as_grown : (B : Type 0) (g : Moves) (cap : ℕ) (N : List Node) (P : Order → Bool) (o : Outcome) (M : List Node) (r : Result (Solved ℕ) Refusal) → Makes g cap N P o → As B o M r → Extends N M
as_grown B g cap N P (done K s n) M (Ok j) made h = subst (Extends N) (sym h.0) made.extends
as_grown B g cap N P (done K s n) M (Err e) made h = absurd h
as_grown B g cap N P (full K) M (Ok j) made h = absurd h
as_grown B g cap N P (full K) M (Err e) made h = subst (Extends N) (sym h.0) made.extends

pub grown : (B : Type 0) (g : Moves) → ChainLaws g → (cap : ℕ) (N : List Node) (t : Task) → Sound N → Valid N t → (M : List Node) (r : Result (Solved ℕ) Refusal) → As B (task g cap N t) M r → Extends N M
grown B g laws cap N t S v M r h = as_grown B g cap N (Set g N t) (task g cap N t) M r (task_makes g laws cap N t S v) h

-- the rule with the room of the plan, and with that room under another name
pub same_work : (g : Moves) (N : List Node) (c d : ℕ) (t u : Task) → d ≡ c → u ≡ t → task g c N t ≡ task g d N u
same_work g N c d t u e f = λ i. task g (sym e i) N (sym f i)
