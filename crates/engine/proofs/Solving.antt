-- A task by its rule: outright, as it is remembered, or worked and told. Assumes nothing.
use Rattle.std.proofs.Common.{◌≡◌, ℕ, ◌+◌, ◌-◌, ◌^◌, min, IsErrAnd, Some, None, Ok, Err, Option, Result, sym, refl, ap, ◌∙◌, subst, arith}
use Rattle.std.proofs.Math.Logic.{∥∥₁_elim, ∥∥₁_map}
use Rattle.orders.specs.declared.refusal.Refusal.{Refusal}
use Rattle.orders.specs.Chains.{ChainLaws}
use Rattle.caches.specs.declared.Triple.{Triple}
use Rattle.caches.specs.Recall.{Recalls, Told}
use Rattle.diagrams.specs.declared.Task.{Task}
use Rattle.diagrams.specs.Moves.{Moves}
use Rattle.diagrams.specs.Rules.{Outcome, done, Made}
use Rattle.diagrams.specs.Rules as Rules
use Rattle.diagrams.specs.Script.{Script, go}
use Rattle.diagrams.specs.Bodies.{first_of, body}
use Rattle.diagrams.specs.Work.{Valid, Set, task}
use Rattle.diagrams.specs.Outright.{outright, kind_of, right_of}
use Rattle.diagrams.proofs.Rows.{still_valid}
use Rattle.diagrams.proofs.Engine.{task_makes, task_settled}
use Rattle.diagrams.proofs.Outrights.{outright_body}
use Rattle.diagrams.proofs.Steps.{shift, task_is, answer_runs}
use Rattle.tables.specs.declared.table.Table.{Table}
use Rattle.tables.specs.Rows.{rows}
use Rattle.tables.proofs.Rows.{sound_of}
use Rattle.engine.specs.declared.found.Found.{Found}
use Rattle.engine.specs.Triples.{triple}
use Rattle.engine.specs.Kept.{Kept}
use Rattle.engine.specs.Answers.{As, Once}
use Rattle.engine.proofs.Keeping.{never, kept_told, known}
use Rattle.engine.proofs.Outcomes.{as_done, as_full, as_ok, as_err, as_prop}

pub once_one : (o : Option ℕ) (v : ℕ) → Once o (Ok (record { set = v; entries = 1 }))
once_one None v = tt
once_one (Some x) v = refl

pub once_none : {o : Option ℕ} (r : Result (Found ℕ) Refusal) → o ≡ None → Once o r
once_none r e = subst (λ x. Once x r) (sym e) tt

-- what was asked and told of a triple q, which is the task's
module _ (u : Task) (rc : Recalls) {q : Triple} (e : q ≡ triple u) where
  pub asked : {o : Option ℕ} → o ≡ rc q.kind q.first q.second → rc (kind_of u) (first_of u) (right_of u) ≡ o
  asked f = sym (f ∙ ap (λ (p : Triple). rc p.kind p.first p.second) e)

  pub told_of : (sure : ℕ) (after : Recalls) (r : ℕ) → Told sure rc after q.kind q.first q.second r → Told sure rc after (kind_of u) (first_of u) (right_of u) r
  told_of sure after r t = subst (λ (p : Triple). Told sure rc after p.kind p.first p.second r) e t

module _ (g : Moves) (laws : ChainLaws g) (cap : ℕ) (B : Type 0) (T : Table) (u : Task) (valid : Valid (rows T) u) where
  rule_is : task g cap (rows T) u ≡ shift 1 (go cap (task g cap) (rows T) (body g (rows T) u) 0)
  rule_is = task_is g laws cap (rows T) (sound_of T) u valid

  pub solved_outright : (r : ℕ) → outright u ≡ Some r → As B (task g cap (rows T) u) (rows T) (Ok (record { set = r; entries = 1 }))
  solved_outright r o = as_ok B record {
    n = 1;
    is = rule_is ∙ ap (λ (s : Script). shift 1 (go cap (task g cap) (rows T) s 0)) (outright_body g (rows T) u r o) ∙ ap (shift 1) (answer_runs g cap (rows T) r 0);
    counts = record { least = omega arith; most = omega arith; just = λ _. refl };
  }

  pub solved_known : (rc : Recalls) → ∥ Kept g cap (rows T) rc ∥₁ → (r : ℕ) → rc (kind_of u) (first_of u) (right_of u) ≡ Some r
      → (B → rc (kind_of u) (first_of u) (right_of u) ≡ None) → As B (task g cap (rows T) u) (rows T) (Ok (record { set = r; entries = 1 }))
  solved_known rc kept r e forgets = ∥∥₁_elim kept (as_prop B _ _ _) (λ k.
      let w = known g cap (rows T) rc k laws (sound_of T) u r valid e in
      as_ok B record {
        n = w.n;
        is = w.is;
        counts = record { least = omega arith; most = w.some; just = λ b. absurd (never _ r e (forgets b)) };
      })

  -- the table K after the work
  module _ (K : Table) where
    abbrev whole : Outcome
    whole = go cap (task g cap) (rows T) (body g (rows T) u) 0

    pub refused_worked : (x : Refusal) → As B whole (rows K) (Err x) → (r : Result (Found ℕ) Refusal) → IsErrAnd r (λ y. y ≡ x) → As B (task g cap (rows T) u) (rows K) r
    refused_worked x h r i = let f = as_full B whole (rows K) x h in as_err B x r i (rule_is ∙ ap (shift 1) f.0) f.1

    module _ (j : Found ℕ) (h : As B whole (rows K) (Ok j)) where
      worked_is : (n : ℕ) → whole ≡ done (rows K) j.set n → task g cap (rows T) u ≡ done (rows K) j.set (1 + n)
      worked_is n e = rule_is ∙ ap (shift 1) e

      pub solved_worked : {f : ℕ} → f ≡ min (j.entries + 1) (2 ^ 64 - 1) → As B (task g cap (rows T) u) (rows K) (Ok (record { set = j.set; entries = f }))
      solved_worked {f} q =
          let d = as_done B whole (rows K) j h in
          let c = d.counts in
          as_ok B record {
            n = 1 + d.n;
            is = worked_is d.n d.is;
            counts = record { least = omega (arith, c.least); most = omega (arith, c.most); just = λ b. let z = c.just b in omega arith };
          }

      -- its answer may be told
      pub kept_worked : (rc after : Recalls) (sure : ℕ) → Told sure rc after (kind_of u) (first_of u) (right_of u) j.set → ∥ Kept g cap (rows K) rc ∥₁ → ∥ Kept g cap (rows K) after ∥₁
      kept_worked rc after sure told kept = ∥∥₁_map kept (λ k.
          let d = as_done B whole (rows K) j h in
          let e = worked_is d.n d.is in
          let m : Made g (rows T) (Set g (rows T) u) (rows K) j.set = subst (Rules.Makes g cap (rows T) (Set g (rows T) u)) e (task_makes g laws cap (rows T) u (sound_of T) valid) in
          kept_told g cap (rows K) rc k after sure u j.set (1 + d.n) told (still_valid (rows T) (rows K) u m.extends valid)
          (task_settled g laws cap (rows T) u (sound_of T) valid (rows K) j.set (1 + d.n) e))
