-- The laws of the engine, once for all kinds of work. Assumes nothing.
use Rattle.std.proofs.Common.{◌≡◌, ℕ, zero, suc, ◌+◌, ◌<◌, ◌≤◌, Bool, List, sym, refl, ap, ◌∙◌, subst, le_trans, le_refl, arith}
use Rattle.orders.specs.declared.order.Order.{Order}
use Rattle.orders.specs.Chains.{ChainLaws}
use Rattle.diagrams.specs.declared.Node.{Node}
use Rattle.diagrams.specs.declared.Task.{Task}
use Rattle.diagrams.specs.Moves.{Moves, same, back}
use Rattle.diagrams.specs.Table.{Extends, Sound}
use Rattle.diagrams.specs.Rules.{Outcome, done, full, after, node, Made, Makes}
use Rattle.diagrams.specs.Script.{Script, answer, make, enter, Rec, go, deep}
use Rattle.diagrams.specs.Bodies.{body}
use Rattle.diagrams.specs.Work.{Valid, Set, measure, depth, task}
use Rattle.diagrams.specs.Meets.{Meets}
use Rattle.diagrams.proofs.Pushes.{extends_self, extends_trans, node_makes}
use Rattle.diagrams.proofs.Nodes.{extends_back, node_entries, node_stable, node_settled}
use Rattle.diagrams.proofs.Rows.{still_valid, same_measure, shallow, same_body}
use Rattle.diagrams.proofs.Owes.{meets}

-- at least n entries
abbrev pub AtLeast : ℕ → Outcome → Type 0
AtLeast n (done M r m) = n ≤ m
AtLeast n (full M) = Unit {0}

least_up : (n m : ℕ) (w : Outcome) → n ≤ m → AtLeast m w → AtLeast n w
least_up n m (done K r q) l h = le_trans l h
least_up n m (full K) l h = tt

module _ (g : Moves) (cap : ℕ) where
  made_from : (N M : List Node) (P : Order → Bool) (w : Outcome) → Extends N M → Makes g cap M P w → Makes g cap N P w
  made_from N M P (done K r n) X h = record { sound = h.sound; extends = extends_trans N M K X h.extends; there = h.there; means = h.means }
  made_from N M P (full K) X h = record { sound = h.sound; extends = extends_trans N M K X h.extends; full = h.full }

  makes_then : (N : List Node) (P Q : Order → Bool) (w : Outcome) (f : List Node → ℕ → ℕ → Outcome) → Makes g cap N P w →
      ((K : List Node) (r m : ℕ) → Made g N P K r → Makes g cap N Q (f K r m)) → Makes g cap N Q (after w f)
  makes_then N P Q (done K r m) f h on = on K r m h
  makes_then N P Q (full K) f h on = h

  same_then : (N : List Node) (P : Order → Bool) (w : Outcome) (f f' : List Node → ℕ → ℕ → Outcome) → Makes g cap N P w →
      ((K : List Node) (r m : ℕ) → Made g N P K r → f K r m ≡ f' K r m) → after w f ≡ after w f'
  same_then N P (done K r m) f f' h e = e K r m h
  same_then N P (full K) f f' h e = refl

  least_then : (n : ℕ) (w : Outcome) (f : List Node → ℕ → ℕ → Outcome) → ((K : List Node) (r m : ℕ) → w ≡ done K r m → AtLeast n (f K r m)) → AtLeast n (after w f)
  least_then n (done K r m) f h = h K r m refl
  least_then n (full K) f h = tt

  made_at : (N : List Node) (P : Order → Bool) (w : Outcome) (M : List Node) (r n : ℕ) → w ≡ done M r n → Makes g cap N P w → Made g N P M r
  made_at N P w M r n e h = subst (Makes g cap N P) e h

  -- a step that ends where it began, on a longer table: w there, and w' here
  step_stable : (N M : List Node) (Q : Order → Bool) (w w' : Outcome) (f : List Node → ℕ → ℕ → Outcome) (r n : ℕ) → Makes g cap N Q w →
      ((v p : ℕ) → w ≡ done N v p → w' ≡ done M v p) →
      ((K : List Node) (v p : ℕ) → Made g N Q K v → f K v p ≡ done N r n → Extends K N) →
      ((v p : ℕ) → Made g N Q N v → f N v p ≡ done N r n → f M v p ≡ done M r n) →
      after w f ≡ done N r n → after w' f ≡ done M r n
  step_stable N M Q (done K v p) w' f r n h same back on e =
      let z : K ≡ N = extends_back N K h.extends (back K v p h e) in
      let here : Made g N Q N v = subst (λ (L : List Node). Made g N Q L v) z h in
      let rest : f N v p ≡ done N r n = sym (ap (λ (L : List Node). f L v p) z) ∙ e in
      ap (λ (o : Outcome). after o f) (same v p (ap (λ (L : List Node). done L v p) z)) ∙ on v p here rest
  step_stable N M Q (full K) w' f r n h same back on e = let z : ◌≡◌ {A = ℕ} 0 1 = cc in absurd (omega arith)

  -- a step once more, on the table M that it and what came after it made
  step_settled : (N M : List Node) (Q : Order → Bool) (w w' : Outcome) (f : List Node → ℕ → ℕ → Outcome) (r n : ℕ) → Makes g cap N Q w →
      ((K : List Node) (v p : ℕ) → Made g N Q K v → f K v p ≡ done M r n → w ≡ done K v p → w' ≡ done M v p) →
      ((K : List Node) (v p : ℕ) → Made g N Q K v → f K v p ≡ done M r n → f M v p ≡ done M r n) →
      after w f ≡ done M r n → after w' f ≡ done M r n
  step_settled N M Q (done K v p) w' f r n h same on e = ap (λ (o : Outcome). after o f) (same K v p h e refl) ∙ on K v p h e
  step_settled N M Q (full K) w' f r n h same on e = let z : ◌≡◌ {A = ℕ} 0 1 = cc in absurd (omega arith)

  go_least : (rec : Rec) (s : Script) (N : List Node) (n : ℕ) → AtLeast n (go cap rec N s n)
  unfolding go
  go_least rec (answer r) N n = le_refl n
  go_least rec (make x y lo hi k) N n =
      least_then n (node cap N x y lo hi n) _ (λ K r m e. least_up n m (go cap rec K (k r) m) (omega (arith, node_entries cap x y lo hi n N K r m e)) (go_least rec (k r) K m))
  go_least rec (enter t k) N n = least_then n (rec N t) _ (λ K r m e. least_up n (n + m) (go cap rec K (k r) (n + m)) (omega arith) (go_least rec (k r) K (n + m)))

  -- what is known of a task that goes less deep than m
  module _ (m : ℕ) (rec : Rec) where
    abbrev pub MakesBelow : Type 0
    MakesBelow = (N : List Node) (t : Task) → Sound N → Valid N t → measure N t < m → Makes g cap N (Set g N t) (rec N t)

    abbrev pub StableBelow : Type 0
    StableBelow = (N M : List Node) (t : Task) (r n : ℕ) → Sound N → Sound M → Extends N M → Valid N t → measure N t < m → rec N t ≡ done N r n → rec M t ≡ done M r n

    abbrev pub SettledBelow : Type 0
    SettledBelow = (N M : List Node) (t : Task) (r n : ℕ) → Sound N → Valid N t → measure N t < m → rec N t ≡ done M r n → rec M t ≡ done M r n

  module _ (m : ℕ) (rec : Rec) (makes : MakesBelow m rec) (P : Order → Bool) where
    go_makes : (s : Script) (N : List Node) → Sound N → Meets g P m N s → (n : ℕ) → Makes g cap N P (go cap rec N s n)
    unfolding go
    go_makes (answer r) N S h n = record { sound = S; extends = extends_self N; there = h.0; means = h.1 }
    go_makes (make x y lo hi k) N S h n = makes_then N _ P _ _ (node_makes g cap N S x y lo hi n h.0) (λ K r q w.
        made_from N K P _ w.extends (go_makes (k r) K w.sound (h.1 K r w) q))
    go_makes (enter t k) N S h n = makes_then N _ P _ _ (makes N t S h.0 h.1) (λ K r q w.
        made_from N K P _ w.extends (go_makes (k r) K w.sound (h.2 K r w) (n + q)))

    go_same : (other : Rec) → ((N : List Node) (t : Task) → Sound N → Valid N t → measure N t < m → rec N t ≡ other N t) →
        (s : Script) (N : List Node) → Sound N → Meets g P m N s → (n : ℕ) → go cap rec N s n ≡ go cap other N s n
    unfolding go
    go_same other e (answer r) N S h n = refl
    go_same other e (make x y lo hi k) N S h n = same_then N _ _ _ _ (node_makes g cap N S x y lo hi n h.0) (λ K r q w.
        go_same other e (k r) K w.sound (h.1 K r w) q)
    go_same other e (enter t k) N S h n =
        same_then N _ _ _ _ (makes N t S h.0 h.1) (λ K r q w. go_same other e (k r) K w.sound (h.2 K r w) (n + q))
        ∙ ap (λ (o : Outcome). after o (λ M r q. go cap other M (k r) (n + q))) (e N t S h.0 h.1)

    -- what a script made on the way is in what it made at last
    ends : (s : Script) (K : List Node) → Sound K → Meets g P m K s → (n : ℕ) (M : List Node) (r q : ℕ) → go cap rec K s n ≡ done M r q → Made g K P M r
    ends s K S h n M r q e = made_at K P (go cap rec K s n) M r q e (go_makes s K S h n)

    module _ (stable : StableBelow m rec) where
      go_stable : (s : Script) (N M : List Node) → Sound N → Sound M → Extends N M → Meets g P m N s → (n r q : ℕ) →
          go cap rec N s n ≡ done N r q → go cap rec M s n ≡ done M r q
      unfolding go
      go_stable (answer v) N M S T X h n r q e = cc
      go_stable (make x y lo hi k) N M S T X h n r q e =
          step_stable N M _ (node cap N x y lo hi n) (node cap M x y lo hi n) (λ K v p. go cap rec K (k v) p) r q (node_makes g cap N S x y lo hi n h.0)
          (λ v p f. node_stable cap x y lo hi n N M v p X f)
          (λ K v p w f. (ends (k v) K w.sound (h.1 K v w) p N r q f).extends)
          (λ v p w f. go_stable (k v) N M S T X (h.1 N v w) p r q f) e
      go_stable (enter t k) N M S T X h n r q e =
          step_stable N M _ (rec N t) (rec M t) (λ K v p. go cap rec K (k v) (n + p)) r q (makes N t S h.0 h.1)
          (λ v p f. stable N M t v p S T X h.0 h.1 f)
          (λ K v p w f. (ends (k v) K w.sound (h.2 K v w) (n + p) N r q f).extends)
          (λ v p w f. go_stable (k v) N M S T X (h.2 N v w) (n + p) r q f) e

      module _ (settled : SettledBelow m rec) where
        go_settled : (s : Script) (N M : List Node) → Sound N → Meets g P m N s → (n r q : ℕ) →
            go cap rec N s n ≡ done M r q → go cap rec M s n ≡ done M r q
        unfolding go
        go_settled (answer v) N M S h n r q e = cc
        go_settled (make x y lo hi k) N M S h n r q e =
            step_settled N M _ (node cap N x y lo hi n) (node cap M x y lo hi n) (λ K v p. go cap rec K (k v) p) r q (node_makes g cap N S x y lo hi n h.0)
            (λ K v p w f i. node_stable cap x y lo hi n K M v p (ends (k v) K w.sound (h.1 K v w) p M r q f).extends (node_settled cap x y lo hi n N K v p i))
            (λ K v p w f. go_settled (k v) K M w.sound (h.1 K v w) p r q f) e
        go_settled (enter t k) N M S h n r q e =
            step_settled N M _ (rec N t) (rec M t) (λ K v p. go cap rec K (k v) (n + p)) r q (makes N t S h.0 h.1)
            (λ K v p w f i.
            let z = ends (k v) K w.sound (h.2 K v w) (n + p) M r q f in
            let less : measure K t < m = rw (same_measure N K t w.extends h.0) h.1 in
            stable K M t v p w.sound z.sound z.extends (still_valid N K t w.extends h.0) less (settled N K t v p S h.0 h.1 i))
            (λ K v p w f. go_settled (k v) K M w.sound (h.2 K v w) (n + p) r q f) e

module _ (g : Moves) (laws : ChainLaws g) (cap : ℕ) where
  abbrev deep_of : ℕ → Rec
  deep_of f = deep cap (body g) f

  deep_makes : (f : ℕ) → MakesBelow g cap f (deep_of f)
  unfolding deep
  deep_makes zero N t S v l = absurd (omega arith)
  deep_makes (suc f) N t S v l = go_makes g cap (measure N t) (deep_of f) (λ K u T w q. deep_makes f K u T w (omega arith)) (Set g N t) (body g N t) N S (meets g laws N t S v) 1

  deep_more : (f d : ℕ) (N : List Node) (t : Task) → Sound N → Valid N t → measure N t < f → measure N t < d → deep_of f N t ≡ deep_of d N t
  unfolding deep
  deep_more zero d N t S v l q = absurd (omega arith)
  deep_more (suc f) zero N t S v l q = absurd (omega arith)
  deep_more (suc f) (suc d) N t S v l q =
      go_same g cap (measure N t) (deep_of f) (λ K u T w i. deep_makes f K u T w (omega arith)) (Set g N t) (deep_of d)
      (λ K u T w i. deep_more f d K u T w (omega arith) (omega arith)) (body g N t) N S (meets g laws N t S v) 1

  deep_stable : (f : ℕ) → StableBelow g cap f (deep_of f)
  unfolding deep
  deep_stable zero N M t r n S T X v l e = absurd (omega arith)
  deep_stable (suc f) N M t r n S T X v l e =
      ap (λ (s : Script). go cap (deep_of f) M s 1) (same_body g N M t X v)
      ∙ go_stable g cap (measure N t) (deep_of f) (λ K u U w i. deep_makes f K u U w (omega arith)) (Set g N t)
      (λ K J u a b U W Y w i. deep_stable f K J u a b U W Y w (omega arith)) (body g N t) N M S T X (meets g laws N t S v) 1 r n e

  deep_settled : (f : ℕ) → SettledBelow g cap f (deep_of f)
  unfolding deep
  deep_settled zero N M t r n S v l e = absurd (omega arith)
  deep_settled (suc f) N M t r n S v l e =
      let X = (made_at g cap N _ (deep_of (suc f) N t) M r n e (deep_makes (suc f) N t S v l)).extends in
      ap (λ (s : Script). go cap (deep_of f) M s 1) (same_body g N M t X v)
      ∙ go_settled g cap (measure N t) (deep_of f) (λ K u U w i. deep_makes f K u U w (omega arith)) (Set g N t)
      (λ K J u a b U W Y w i. deep_stable f K J u a b U W Y w (omega arith))
      (λ K J u a b U w i. deep_settled f K J u a b U w (omega arith)) (body g N t) N M S (meets g laws N t S v) 1 r n e

  module _ (N : List Node) (t : Task) (S : Sound N) (v : Valid N t) where
    pub task_makes : Makes g cap N (Set g N t) (task g cap N t)
    unfolding task
    task_makes = deep_makes depth N t S v (shallow N t S v)

    -- a task is one unfolding of its rule: nobody sees the depth again
    pub task_unfolds : task g cap N t ≡ go cap (task g cap) N (body g N t) 1
    unfolding task
    task_unfolds =
        deep_more depth (suc depth) N t S v (shallow N t S v) (omega (arith, shallow N t S v)) ∙ (unfold deep in refl)

    -- and any depth above its measure is enough
    pub task_enough : (f : ℕ) → measure N t < f → deep cap (body g) f N t ≡ task g cap N t
    unfolding task
    task_enough f l = deep_more f depth N t S v l (shallow N t S v)

    pub task_stable : (M : List Node) (r n : ℕ) → Sound M → Extends N M → task g cap N t ≡ done N r n → task g cap M t ≡ done M r n
    unfolding task
    task_stable M r n T X e = deep_stable depth N M t r n S T X v (shallow N t S v) e

    pub task_settled : (M : List Node) (r n : ℕ) → task g cap N t ≡ done M r n → task g cap M t ≡ done M r n
    unfolding task
    task_settled M r n e = deep_settled depth N M t r n S v (shallow N t S v) e

    pub task_least : AtLeast 1 (task g cap N t)
    task_least = subst (AtLeast 1) (sym task_unfolds) (go_least g cap (task g cap) (body g N t) N 1)
