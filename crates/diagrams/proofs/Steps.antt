-- A script, step by step: what a call of the code needs and gives. Assumes nothing.
use Rattle.std.proofs.Common.{◌≡◌, ℕ, ◌+◌, Bool, true, false, eqb, ltb, List, length, refl, ap, ◌∙◌, subst, add_assoc}
use Rattle.orders.specs.declared.order.Order.{Order}
use Rattle.orders.specs.Chains.{ChainLaws}
use Rattle.diagrams.specs.declared.Node.{Node}
use Rattle.diagrams.specs.declared.Task.{Task}
use Rattle.diagrams.specs.Moves.{Moves}
use Rattle.diagrams.specs.Table.{Extends, Sound}
use Rattle.diagrams.specs.Rules.{Outcome, done, full, after, find, node_by, node, Made, Makes}
use Rattle.diagrams.specs.Script.{Script, answer, make, enter, Rec, go}
use Rattle.diagrams.specs.Bodies.{body}
use Rattle.diagrams.specs.Work.{Valid, Set, measure, task}
use Rattle.diagrams.specs.Meets.{Owed}
use Rattle.diagrams.proofs.Pushes.{node_makes}
use Rattle.diagrams.proofs.Engine.{task_makes, task_unfolds}
use Rattle.diagrams.proofs.Owes.{meets}

-- k entries more
abbrev pub shift : ℕ → Outcome → Outcome
shift k (done M r n) = done M r (k + n)
shift k (full M) = full M

shift_after : (k : ℕ) (w w' : Outcome) (f g : List Node → ℕ → ℕ → Outcome) → w' ≡ shift k w →
    ((M : List Node) (r n : ℕ) → g M r (k + n) ≡ shift k (f M r n)) → after w' g ≡ shift k (after w f)
shift_after k (done M r n) w' f g e h = ap (λ (o : Outcome). after o g) e ∙ h M r n
shift_after k (full M) w' f g e h = ap (λ (o : Outcome). after o g) e

shift_by : (k : ℕ) (N : List Node) (x y lo hi n : ℕ) (s t u : Bool) → node_by N x y lo hi (k + n) s t u ≡ shift k (node_by N x y lo hi n s t u)
shift_by k N x y lo hi n true t u = refl
shift_by k N x y lo hi n false true u = refl
shift_by k N x y lo hi n false false true = refl
shift_by k N x y lo hi n false false false = refl

shift_enter : (k n : ℕ) (w : Outcome) (f : List Node → ℕ → ℕ → Outcome) → ((M : List Node) (r m : ℕ) → f M r (k + (n + m)) ≡ shift k (f M r (n + m))) →
    after w (λ M r m. f M r ((k + n) + m)) ≡ shift k (after w (λ M r m. f M r (n + m)))
shift_enter k n (done M r m) f h = ap (f M r) (add_assoc k n m) ∙ h M r m
shift_enter k n (full M) f h = refl

-- entries are only counted
pub go_shift : (cap : ℕ) (rec : Rec) (k : ℕ) (s : Script) (N : List Node) (n : ℕ) → go cap rec N s (k + n) ≡ shift k (go cap rec N s n)
unfolding go node
go_shift cap rec k (answer r) N n = refl
go_shift cap rec k (make x y lo hi c) N n =
    shift_after k (node cap N x y lo hi n) _ _ _ (shift_by k N x y lo hi n (eqb hi 0) (ltb (find N x y lo hi) (length N)) (ltb (length N) cap)) (λ M r m. go_shift cap rec k (c r) M m)
go_shift cap rec k (enter t c) N n = shift_enter k n (rec N t) (λ M r. go cap rec M (c r)) (λ M r m. go_shift cap rec k (c r) M (n + m))

module _ (g : Moves) where
  -- what is known where a step has ended in K
  pub record Went (N K : List Node) (s : Script) : Type 0 where
    pub sound : Sound K
    pub extends : Extends N K
    pub owed : Owed g K s

  module _ (cap : ℕ) where
    abbrev run : List Node → Script → ℕ → Outcome
    run N s n = go cap (task g cap) N s n

    pub answer_runs : (N : List Node) (r n : ℕ) → run N (answer r) n ≡ done N r n
    unfolding go
    answer_runs N r n = refl

    module _ (N : List Node) (t : Task) (k : ℕ → Script) (n : ℕ) where
      pub enter_runs : (K : List Node) (r m : ℕ) → task g cap N t ≡ done K r m → run N (enter t k) n ≡ run K (k r) (n + m)
      unfolding go
      enter_runs K r m e = ap (λ (o : Outcome). after o (λ M r m. run M (k r) (n + m))) e

      pub enter_full : (K : List Node) → task g cap N t ≡ full K → run N (enter t k) n ≡ full K
      unfolding go
      enter_full K e = ap (λ (o : Outcome). after o (λ M r m. run M (k r) (n + m))) e

    module _ (N : List Node) (x y lo hi : ℕ) (k : ℕ → Script) (n : ℕ) where
      pub make_runs : (K : List Node) (r m : ℕ) → node cap N x y lo hi n ≡ done K r m → run N (make x y lo hi k) n ≡ run K (k r) m
      unfolding go
      make_runs K r m e = ap (λ (o : Outcome). after o (λ M r m. run M (k r) m)) e

      pub make_full : (K : List Node) → node cap N x y lo hi n ≡ full K → run N (make x y lo hi k) n ≡ full K
      unfolding go
      make_full K e = ap (λ (o : Outcome). after o (λ M r m. run M (k r) m)) e

    made_done : (N : List Node) (P : Order → Bool) (w : Outcome) (M : List Node) (r n : ℕ) → w ≡ done M r n → Makes g cap N P w → Made g N P M r
    made_done N P w M r n e h = subst (Makes g cap N P) e h

    module _ (N : List Node) (S : Sound N) where
      pub make_went : (x y lo hi : ℕ) (k : ℕ → Script) (K : List Node) (r n m : ℕ) → Owed g N (make x y lo hi k) → node cap N x y lo hi n ≡ done K r m → Went N K (k r)
      make_went x y lo hi k K r n m o e =
          let q = made_done N _ _ K r m e (node_makes g cap N S x y lo hi n o.2.0) in
          record { sound = q.sound; extends = q.extends; owed = (o.0, o.1, o.2.1 K r q) }

module _ (g : Moves) (laws : ChainLaws g) (cap : ℕ) where
  module _ (N : List Node) (S : Sound N) where
    pub enter_went : (t : Task) (k : ℕ → Script) (K : List Node) (r n : ℕ) → Owed g N (enter t k) → task g cap N t ≡ done K r n → Went g N K (k r)
    enter_went t k K r n o e =
        let m = made_done g cap N _ _ K r n e (task_makes g laws cap N t S o.2.0) in
        record { sound = m.sound; extends = m.extends; owed = (o.0, o.1, o.2.2 K r m) }

    -- a task is its rule, and one entry more
    pub task_is : (t : Task) → Valid N t → task g cap N t ≡ shift 1 (run g cap N (body g N t) 0)
    task_is t v = task_unfolds g laws cap N t S v ∙ go_shift cap (task g cap) 1 (body g N t) N 0

    pub task_owed : (t : Task) → Valid N t → Owed g N (body g N t)
    task_owed t v = (Set g N t, measure N t, meets g laws N t S v)
