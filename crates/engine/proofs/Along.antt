-- The code beside the rule: what remains to be done after each step. Assumes nothing.
use Rattle.std.proofs.Common.{◌≡◌, ℕ, ◌+◌, ◌-◌, ◌^◌, min, Bool, List, IsErrAnd, Ok, Err, Result, sym, ap, ◌∙◌, subst, arith}
use Rattle.orders.specs.declared.order.Order.{Order}
use Rattle.orders.specs.declared.refusal.Refusal.{Refusal}
use Rattle.orders.specs.Chains.{ChainLaws}
use Rattle.diagrams.specs.declared.Node.{Node}
use Rattle.diagrams.specs.declared.Task.{Task}
use Rattle.diagrams.specs.Moves.{Moves}
use Rattle.diagrams.specs.Rules.{Outcome, node}
use Rattle.diagrams.specs.Rules as Rules
use Rattle.diagrams.specs.Script.{Script, answer, make, enter, go}
use Rattle.diagrams.specs.Bodies.{body}
use Rattle.diagrams.specs.Work.{Valid, Set, measure, task}
use Rattle.diagrams.specs.Meets.{Meets}
use Rattle.diagrams.proofs.Pushes.{node_makes}
use Rattle.diagrams.proofs.Owes.{meets}
use Rattle.diagrams.proofs.Steps.{answer_runs, enter_runs, enter_full, make_runs, make_full}
use Rattle.tables.specs.declared.table.Table.{Table}
use Rattle.tables.specs.Rows.{rows, Makes}
use Rattle.tables.proofs.Rows.{sound_of}
use Rattle.engine.specs.declared.found.Found.{Found}
use Rattle.engine.specs.declared.plan.Plan.{Plan}
use Rattle.engine.specs.declared.plan.Rest.{Rest}
use Rattle.engine.specs.declared.plan.Last.{Last}
use Rattle.engine.specs.Plans.{last_of, rest_of, script}
use Rattle.engine.specs.Answers.{Counts, As, Does}
use Rattle.engine.proofs.Outcomes.{as_done, as_full, as_ok, as_err, makes_done, makes_full, count_more, solved_made}

module _ (g : Moves) (laws : ChainLaws g) (cap : ℕ) (B : Type 0) where
  -- What is left of a piece of work w that goes less deep than m: the script s from the table T on, after e entries of the
  -- code's.
  pub record Along (w : Outcome) (m : ℕ) (T : Table) (s : Script) (e : ℕ) : Type 0 where
    pub n : ℕ
    pub is : w ≡ go cap (task g cap) (rows T) s n
    pub counts : Counts B e n
    pub set : Order → Bool
    pub meets : Meets g set m (rows T) s

  -- the rule of a task u, planned as p, on T
  module _ (T : Table) (u : Task) (p : Plan) (valid : Valid (rows T) u) (is : script p ≡ body g (rows T) u) where
    abbrev pub whole : Outcome
    whole = go cap (task g cap) (rows T) (body g (rows T) u) 0

    pub first_meets : Meets g (Set g (rows T) u) (measure (rows T) u) (rows T) (script p)
    first_meets = subst (Meets g (Set g (rows T) u) (measure (rows T) u) (rows T)) (sym is) (meets g laws (rows T) u (sound_of T) valid)

    -- the first task was answered
    pub opened : (K : Table) (j : Found ℕ) → As B (task g cap (rows T) p.low) (rows K) (Ok j) → {rest : Rest} → p.rest ≡ rest
        → Along whole (measure (rows T) u) K (rest_of rest j.set) j.entries
    opened K j h {rest} e =
        let d = as_done B _ (rows K) j h in
        subst (λ (x : Rest). Along whole (measure (rows T) u) K (rest_of x j.set) j.entries) e record {
          n = d.n;
          is = ap (λ (s : Script). go cap (task g cap) (rows T) s 0) (sym is) ∙ enter_runs g cap (rows T) p.low (rest_of p.rest) 0 (rows K) j.set d.n d.is ∙ ap (go cap (task g cap) (rows K) (rest_of p.rest j.set)) (zero_plus d.n);
          counts = d.counts;
          set = Set g (rows T) u;
          meets = first_meets.2 (rows K) j.set (solved_made g laws cap B (rows T) (sound_of T) p.low first_meets.0 (rows K) j h);
        }
      where
        zero_plus : (n : ℕ) → 0 + n ≡ n
        zero_plus n = omega arith

    -- or refused
    pub closed : (K : Table) (x : Refusal) → As B (task g cap (rows T) p.low) (rows K) (Err x) → (r : Result (Found ℕ) Refusal) → IsErrAnd r (λ y. y ≡ x) → As B whole (rows K) r
    closed K x h r t =
        let f = as_full B _ (rows K) x h in
        as_err B x r t (ap (λ (s : Script). go cap (task g cap) (rows T) s 0) (sym is) ∙ enter_full g cap (rows T) p.low (rest_of p.rest) 0 (rows K) f.0) f.1

module _ {g : Moves} {laws : ChainLaws g} {cap : ℕ} {B : Type 0} {w : Outcome} {m : ℕ} {T : Table} {e : ℕ} where
  -- the end
  pub ended : {r : ℕ} → Along g laws cap B w m T (answer r) e → As B w (rows T) (Ok (record { set = r; entries = e }))
  ended {r} a = as_ok B record { n = a.n; is = a.is ∙ answer_runs g cap (rows T) r a.n; counts = a.counts }

  -- what is left is done by another function
  pub handed : {s : Script} → Along g laws cap B w m T s e → (K : Table) (r : Result (Found ℕ) Refusal) → Does g cap B (rows T) e s (rows K) r → As B w (rows K) r
  handed {s} a K r d = subst (λ o. As B o (rows K) r) (sym a.is) (d a.n a.counts)

  module _ {t : Task} {k : ℕ → Script} (a : Along g laws cap B w m T (enter t k) e) where
    -- a task was answered
    pub entered : (K : Table) (j : Found ℕ) → As B (task g cap (rows T) t) (rows K) (Ok j) → {f : ℕ} → f ≡ min (e + j.entries) (2 ^ 64 - 1)
        → Along g laws cap B w m K (k j.set) f
    entered K j h {f} q =
        let d = as_done B _ (rows K) j h in
        record {
          n = a.n + d.n;
          is = a.is ∙ enter_runs g cap (rows T) t k a.n (rows K) j.set d.n d.is;
          counts = count_more B e j.entries a.n d.n f a.counts d.counts q;
          set = a.set;
          meets = a.meets.2 (rows K) j.set (solved_made g laws cap B (rows T) (sound_of T) t a.meets.0 (rows K) j h);
        }

    -- or refused
    pub refused : (K : Table) (x : Refusal) → As B (task g cap (rows T) t) (rows K) (Err x) → (r : Result (Found ℕ) Refusal) → IsErrAnd r (λ y. y ≡ x) → As B w (rows K) r
    refused K x h r i =
        let f = as_full B _ (rows K) x h in
        as_err B x r i (a.is ∙ enter_full g cap (rows T) t k a.n (rows K) f.0) f.1

  -- the second task of a plan was answered
  pub second : {t : Task} {last end : Last} → last ≡ end → (r : ℕ) → Along g laws cap B w m T (enter t (last_of last r)) e → (K : Table) (j : Found ℕ)
      → As B (task g cap (rows T) t) (rows K) (Ok j) → {f : ℕ} → f ≡ min (e + j.entries) (2 ^ 64 - 1) → Along g laws cap B w m K (last_of end r j.set) f
  second q r a K j h {f} p = subst (λ (x : Last). Along g laws cap B w m K (last_of x r j.set) f) q (entered a K j h p)

  module _ {x y lo hi : ℕ} {k : ℕ → Script} (a : Along g laws cap B w m T (make x y lo hi k) e) where
    -- a node was made
    pub added : (K : Table) (r : ℕ) → ((n : ℕ) → Makes (node cap (rows T) x y lo hi n) (rows K) n (Ok r)) → Along g laws cap B w m K (k r) e
    added K r h =
        let d = makes_done _ (rows K) a.n r (h a.n) in
        record {
          n = a.n;
          is = a.is ∙ make_runs g cap (rows T) x y lo hi k a.n (rows K) r a.n d;
          counts = a.counts;
          set = a.set;
          meets = a.meets.1 (rows K) r (subst (Rules.Makes g cap (rows T) _) d (node_makes g cap (rows T) (sound_of T) x y lo hi a.n a.meets.0));
        }

    -- or refused
    pub declined : (K : Table) (z : Refusal) → ((n : ℕ) → Makes (node cap (rows T) x y lo hi n) (rows K) n (Err z)) → (r : Result (Found ℕ) Refusal) → IsErrAnd r (λ v. v ≡ z) → As B w (rows K) r
    declined K z h r i =
        let f = makes_full _ (rows K) a.n z (h a.n) in
        as_err B z r i (a.is ∙ make_full g cap (rows T) x y lo hi k a.n (rows K) f.0) f.1

-- a node, as the end of a rule
module _ (g : Moves) (cap : ℕ) (B : Type 0) (N : List Node) (x y lo hi : ℕ) (K : Table) (n : ℕ) where
  pub node_answered : (r : ℕ) → ((n : ℕ) → Makes (node cap N x y lo hi n) (rows K) n (Ok r)) → (e : ℕ) → Counts B e n
      → As B (go cap (task g cap) N (make x y lo hi answer) n) (rows K) (Ok (record { set = r; entries = e }))
  node_answered r h e c = as_ok B record {
    n = n;
    is = make_runs g cap N x y lo hi answer n (rows K) r n (makes_done _ (rows K) n r (h n)) ∙ answer_runs g cap (rows K) r n;
    counts = c;
  }

  pub node_refused : (z : Refusal) → ((n : ℕ) → Makes (node cap N x y lo hi n) (rows K) n (Err z)) → (r : Result (Found ℕ) Refusal) → IsErrAnd r (λ v. v ≡ z)
      → As B (go cap (task g cap) N (make x y lo hi answer) n) (rows K) r
  node_refused z h r i =
      let f = makes_full _ (rows K) n z (h n) in
      as_err B z r i (make_full g cap N x y lo hi answer n (rows K) f.0) f.1

-- a join, as the end of a rule
module _ (g : Moves) (cap : ℕ) (B : Type 0) (N : List Node) (t : Task) (K : Table) (e n : ℕ) (c : Counts B e n) where
  pub task_answered : (j : Found ℕ) → As B (task g cap N t) (rows K) (Ok j) → {f : ℕ} → f ≡ min (e + j.entries) (2 ^ 64 - 1)
      → As B (go cap (task g cap) N (enter t answer) n) (rows K) (Ok (record { set = j.set; entries = f }))
  task_answered j h {f} q =
      let d = as_done B _ (rows K) j h in
      as_ok B record {
        n = n + d.n;
        is = enter_runs g cap N t answer n (rows K) j.set d.n d.is ∙ answer_runs g cap (rows K) j.set (n + d.n);
        counts = count_more B e j.entries n d.n f c d.counts q;
      }

  pub task_refused : (x : Refusal) → As B (task g cap N t) (rows K) (Err x) → (r : Result (Found ℕ) Refusal) → IsErrAnd r (λ y. y ≡ x)
      → As B (go cap (task g cap) N (enter t answer) n) (rows K) r
  task_refused x h r i =
      let f = as_full B _ (rows K) x h in
      as_err B x r i (enter_full g cap N t answer n (rows K) f.0) f.1
