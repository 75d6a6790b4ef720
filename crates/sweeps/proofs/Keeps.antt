-- A table of which some nodes are kept, with every kept node its parts: it is sound, and has the same sets. Assumes nothing.
use Rattle.std.proofs.Common.{◌≡◌, ℕ, zero, suc, ◌+◌, ◌<◌, ◌≤◌, Bool, true, false, cond, ◌||◌, List, [], length, sym, refl, ap, ◌∙◌, subst, ap₂, inl, inr, arith}
use native.Mathlib.Decide.{dec_lt, ℕ_discrete}
use Rattle.orders.specs.declared.order.Order.{Order}
use Rattle.diagrams.specs.declared.Node.{Node}
use Rattle.diagrams.specs.Moves.{Moves, back}
use Rattle.diagrams.specs.Level.{level}
use Rattle.diagrams.specs.Table.{at, Exists, x_of, y_of, lo_of, hi_of, level_of, count_of, mem, Sound, Same, Extends}
use Rattle.diagrams.specs.Rules.{Asks}
use Rattle.diagrams.proofs.Folds.{mem_zero, mem_one, mem_node}
use Rattle.diagrams.proofs.Pushes.{extends_self, pushed, pushed_length, pushed_last, push_extends, push_sound}
use Rattle.sweeps.specs.Sweeping.{rank, renumber, again, kept_of}
use Rattle.sweeps.specs.Marks.{Kept, Closed}

module _ (keep : ℕ → Bool) where
  rank_by : (i : ℕ) (b : Bool) → keep (suc (suc i)) ≡ b → rank keep (suc i) ≡ cond b (suc (rank keep i)) (rank keep i)
  unfolding rank
  rank_by i b e = rw e refl

  pub rank_yes : (i : ℕ) → keep (suc (suc i)) ≡ true → rank keep (suc i) ≡ suc (rank keep i)
  rank_yes i e = rank_by i true e

  pub rank_no : (i : ℕ) → keep (suc (suc i)) ≡ false → rank keep (suc i) ≡ rank keep i
  rank_no i e = rank_by i false e

  rank_grows : (i : ℕ) (b : Bool) → keep (suc (suc i)) ≡ b → rank keep i ≤ rank keep (suc i)
  rank_grows i true e = omega (arith, rank_yes i e)
  rank_grows i false e = omega (arith, rank_no i e)

  rank_more : (i d : ℕ) → rank keep i ≤ rank keep (i + d)
  rank_more i zero = let z : i + 0 ≡ i = omega arith in rw z (omega arith)
  rank_more i (suc d) =
      let z : i + suc d ≡ suc (i + d) = omega arith in
      rw z (omega (arith, rank_more i d, rank_grows (i + d) (keep (suc (suc (i + d)))) refl))

  -- a kept node has a smaller rank than any after it
  pub rank_less : (i j : ℕ) → keep (suc (suc i)) ≡ true → i < j → rank keep i < rank keep j
  rank_less i zero e h = absurd (omega arith)
  rank_less i (suc j) e h = by (ℕ_discrete i j) (rank_less i j e)
    where
      by : Dec (i ≡ j) → (i < j → rank keep i < rank keep j) → rank keep i < rank keep (suc j)
      by (yes q) f = omega (arith, rank_yes i e, ap (rank keep) (ap suc q))
      by (no q) f = omega (arith, f (omega arith), rank_grows j (keep (suc (suc j))) refl)

  pub renumber_zero : renumber keep 0 ≡ 0
  unfolding renumber
  renumber_zero = refl

  pub renumber_one : renumber keep 1 ≡ 1
  unfolding renumber
  renumber_one = refl

  pub renumber_node : (i : ℕ) → renumber keep (suc (suc i)) ≡ suc (suc (rank keep i))
  unfolding renumber
  renumber_node i = refl

  pub renumber_some : (n : ℕ) → 1 ≤ n → 1 ≤ renumber keep n
  unfolding renumber
  renumber_some zero h = absurd (omega arith)
  renumber_some (suc zero) h = omega arith
  renumber_some (suc (suc i)) h = omega arith

  -- new numbers come in the former order
  pub renumber_less : (n m : ℕ) → Kept keep n → n < m → renumber keep n < renumber keep m
  unfolding renumber
  renumber_less zero zero k h = absurd (omega arith)
  renumber_less zero (suc zero) k h = omega arith
  renumber_less zero (suc (suc j)) k h = omega arith
  renumber_less (suc zero) zero k h = absurd (omega arith)
  renumber_less (suc zero) (suc zero) k h = absurd (omega arith)
  renumber_less (suc zero) (suc (suc j)) k h = omega arith
  renumber_less (suc (suc i)) zero k h = absurd (omega arith)
  renumber_less (suc (suc i)) (suc zero) k h = absurd (omega arith)
  renumber_less (suc (suc i)) (suc (suc j)) (inl k) h = absurd (omega arith)
  renumber_less (suc (suc i)) (suc (suc j)) (inr k) h = omega (arith, rank_less i j k (omega arith))

  pub renumber_apart : (n m : ℕ) → Kept keep n → Kept keep m → renumber keep n ≡ renumber keep m → n ≡ m
  renumber_apart n m kn km e = by (dec_lt n m) (dec_lt m n)
    where
      by : Dec (n < m) → Dec (m < n) → n ≡ m
      by (yes h) d = absurd (omega (arith, e, renumber_less n m kn h))
      by (no h) (yes q) = absurd (omega (arith, e, renumber_less m n km q))
      by (no h) (no q) = omega arith

  module _ (N : List Node) where
    abbrev K : ℕ → List Node
    K = kept_of keep N

    kept_by : (i : ℕ) (b : Bool) → keep (suc (suc i)) ≡ b → K (suc i) ≡ cond b (pushed (K i) (again keep (at N i))) (K i)
    unfolding kept_of
    kept_by i b e = rw e refl

    pub kept_none : K 0 ≡ []
    unfolding kept_of
    kept_none = refl

    pub kept_yes : (i : ℕ) → keep (suc (suc i)) ≡ true → K (suc i) ≡ pushed (K i) (again keep (at N i))
    kept_yes i e = kept_by i true e

    pub kept_no : (i : ℕ) → keep (suc (suc i)) ≡ false → K (suc i) ≡ K i
    kept_no i e = kept_by i false e

    pub kept_long : (i : ℕ) → length (K i) ≡ rank keep i
    kept_long zero = unfold kept_of rank in refl
    kept_long (suc i) = by (keep (suc (suc i))) refl (kept_long i)
      where
        by : (b : Bool) → keep (suc (suc i)) ≡ b → length (K i) ≡ rank keep i → length (K (suc i)) ≡ rank keep (suc i)
        by true e q = ap length (kept_yes i e) ∙ omega (arith, pushed_length (K i) (again keep (at N i)), rank_yes i e)
        by false e q = ap length (kept_no i e) ∙ q ∙ sym (rank_no i e)

    -- there is never more than there was
    pub rank_within : (i : ℕ) → rank keep i ≤ i
    rank_within zero = unfold rank in omega arith
    rank_within (suc i) = by (keep (suc (suc i))) refl (rank_within i)
      where
        by : (b : Bool) → keep (suc (suc i)) ≡ b → rank keep i ≤ i → rank keep (suc i) ≤ suc i
        by true e q = omega (arith, rank_yes i e)
        by false e q = omega (arith, rank_no i e)

    kept_more : (i : ℕ) → Extends (K i) (K (suc i))
    kept_more i = by (keep (suc (suc i))) refl
      where
        by : (b : Bool) → keep (suc (suc i)) ≡ b → Extends (K i) (K (suc i))
        by true e = subst (Extends (K i)) (sym (kept_yes i e)) (push_extends (K i) (again keep (at N i)))
        by false e = subst (Extends (K i)) (sym (kept_no i e)) (extends_self (K i))

    -- a kept node stands at its rank
    pub kept_at : (i j : ℕ) → i < j → keep (suc (suc i)) ≡ true → at (K j) (rank keep i) ≡ again keep (at N i)
    kept_at i zero h e = absurd (omega arith)
    kept_at i (suc j) h e = by (ℕ_discrete i j) (kept_at i j)
      where
        here : i ≡ j → at (K (suc i)) (rank keep i) ≡ again keep (at N i)
        here q = rw (kept_yes i e, ← kept_long i) (pushed_last (K i) (again keep (at N i)))

        by : Dec (i ≡ j) → (i < j → keep (suc (suc i)) ≡ true → at (K j) (rank keep i) ≡ again keep (at N i)) → at (K (suc j)) (rank keep i) ≡ again keep (at N i)
        by (yes q) f = subst (λ (k : ℕ). at (K (suc k)) (rank keep i) ≡ again keep (at N i)) q (here q)
        by (no q) f = (kept_more j).kept (rank keep i) (omega (arith, kept_long j, rank_less i j e (omega arith))) ∙ f (omega arith) e

    -- the kept node of rank k, among the first n
    abbrev pub Source : ℕ → ℕ → Type 0
    Source n k = (i : ℕ) × ((i < n) × ((keep (suc (suc i)) ≡ true) × (rank keep i ≡ k)))

    -- and there is no other
    pub kept_from : (j k : ℕ) → k < length (K j) → Source j k
    kept_from zero k h = absurd (omega (arith, ap length kept_none))
    kept_from (suc j) k h = by (keep (suc (suc j))) refl (kept_from j k)
      where
        up : (Source j k) → Source (suc j) k
        up r = (r.0, (omega (arith, r.1.0), r.1.1))

        last : keep (suc (suc j)) ≡ true → Dec (k < length (K j)) → (k < length (K j) → Source j k)
            → Source (suc j) k
        last e (yes q) f = up (f q)
        last e (no q) f = (j, (omega arith, (e, omega (arith, kept_long j, kept_long (suc j), rank_yes j e))))

        by : (b : Bool) → keep (suc (suc j)) ≡ b → (k < length (K j) → Source j k)
            → Source (suc j) k
        by true e f = last e (dec_lt k (length (K j))) f
        by false e f = up (f (omega (arith, ap length (kept_no j e))))

    -- what the kept table says of a number, by what the table said
    module _ (j : ℕ) where
      pub kept_there : (n : ℕ) → n < suc (suc j) → Kept keep n → Exists (K j) (renumber keep n)
      unfolding renumber
      kept_there zero h k = omega arith
      kept_there (suc zero) h k = omega arith
      kept_there (suc (suc i)) h (inl k) = absurd (omega arith)
      kept_there (suc (suc i)) h (inr k) = omega (arith, kept_long j, rank_less i j k (omega arith))

      pub kept_x : (n : ℕ) → n < suc (suc j) → Kept keep n → x_of (K j) (renumber keep n) ≡ x_of N n
      unfolding renumber x_of
      kept_x zero h k = refl
      kept_x (suc zero) h k = refl
      kept_x (suc (suc i)) h (inl k) = absurd (omega arith)
      kept_x (suc (suc i)) h (inr k) = ap (λ (a : Node). a.x) (kept_at i j (omega arith) k)

      pub kept_y : (n : ℕ) → n < suc (suc j) → Kept keep n → y_of (K j) (renumber keep n) ≡ y_of N n
      unfolding renumber y_of
      kept_y zero h k = refl
      kept_y (suc zero) h k = refl
      kept_y (suc (suc i)) h (inl k) = absurd (omega arith)
      kept_y (suc (suc i)) h (inr k) = ap (λ (a : Node). a.y) (kept_at i j (omega arith) k)

      pub kept_level : (n : ℕ) → n < suc (suc j) → Kept keep n → level_of (K j) (renumber keep n) ≡ level_of N n
      unfolding renumber level_of
      kept_level zero h k = refl
      kept_level (suc zero) h k = refl
      kept_level (suc (suc i)) h (inl k) = absurd (omega arith)
      kept_level (suc (suc i)) h (inr k) = ap (λ (a : Node). level a.x a.y) (kept_at i j (omega arith) k)

      pub kept_count : (n : ℕ) → n < suc (suc j) → Kept keep n → count_of (K j) (renumber keep n) ≡ count_of N n
      unfolding renumber count_of
      kept_count zero h k = refl
      kept_count (suc zero) h k = refl
      kept_count (suc (suc i)) h (inl k) = absurd (omega arith)
      kept_count (suc (suc i)) h (inr k) = ap (λ (a : Node). a.orders) (kept_at i j (omega arith) k)

      pub kept_lo : (n : ℕ) → n < suc (suc j) → Kept keep n → lo_of (K j) (renumber keep n) ≡ renumber keep (lo_of N n)
      unfolding renumber lo_of
      kept_lo zero h k = refl
      kept_lo (suc zero) h k = refl
      kept_lo (suc (suc i)) h (inl k) = absurd (omega arith)
      kept_lo (suc (suc i)) h (inr k) = ap (λ (a : Node). a.lo) (kept_at i j (omega arith) k)

      pub kept_hi : (n : ℕ) → n < suc (suc j) → Kept keep n → hi_of (K j) (renumber keep n) ≡ renumber keep (hi_of N n)
      unfolding renumber hi_of
      kept_hi zero h k = refl
      kept_hi (suc zero) h k = refl
      kept_hi (suc (suc i)) h (inl k) = absurd (omega arith)
      kept_hi (suc (suc i)) h (inr k) = ap (λ (a : Node). a.hi) (kept_at i j (omega arith) k)

    module _ (S : Sound N) (closed : Closed keep N) where
      -- the next kept node, as it is made again
      module _ (j : ℕ) (l : j < length N) (e : keep (suc (suc j)) ≡ true) where
        abbrev a : Node
        a = again keep (at N j)

        pub again_asks : Asks (K j) (at N j).x (at N j).y (renumber keep (at N j).lo) (renumber keep (at N j).hi)
        again_asks =
            let k = S.ok j l in
            let c = closed j l e in
            record {
              x_max = k.x_max;
              y_min = k.y_min;
              y_below = k.y_below;
              lo_there = kept_there j (at N j).lo k.lo_below c.0;
              hi_there = kept_there j (at N j).hi k.hi_below c.1;
              lo_level = rw (kept_level j (at N j).lo k.lo_below c.0) k.lo_level;
              hi_x = rw (kept_x j (at N j).hi k.hi_below c.1) k.hi_x;
            }

        pub again_some : 1 ≤ renumber keep (at N j).hi
        again_some = let k = S.ok j l in renumber_some (at N j).hi k.hi_some

        -- its count is that of its parts
        pub again_counted : a.orders ≡ count_of (K j) (renumber keep (at N j).lo) + count_of (K j) (renumber keep (at N j).hi)
        again_counted =
            let k = S.ok j l in
            let c = closed j l e in
            rw (kept_count j (at N j).lo k.lo_below c.0, kept_count j (at N j).hi k.hi_below c.1) k.counted

        -- and it is not there yet
        pub again_new : (i : ℕ) → i < length (K j) → Same (at (K j) i) a → ⊥
        again_new i q s =
            let r = kept_from j i q in
            let is : at (K j) i ≡ again keep (at N r.0) = ap (at (K j)) (sym r.1.1.1) ∙ kept_at r.0 j r.1.0 r.1.1.0 in
            let t : Same (again keep (at N r.0)) a = rw is at s in
            let c = closed r.0 (omega (arith, r.1.0)) r.1.1.0 in
            let d = closed j l e in
            let one : r.0 ≡ j = S.apart r.0 j (omega (arith, r.1.0)) l record {
              same_x = t.same_x;
              same_y = t.same_y;
              same_lo = renumber_apart _ _ c.0 d.0 t.same_lo;
              same_hi = renumber_apart _ _ c.1 d.1 t.same_hi;
            } in
            omega (arith, r.1.0)

        again_sound : Sound (K j) → Sound (K (suc j))
        again_sound T =
            let k = again_asks in
            let o = S.ok j l in
            rw (kept_yes j e) (push_sound (K j) a T record {
              x_max = k.x_max;
              y_min = k.y_min;
              y_below = k.y_below;
              lo_level = k.lo_level;
              hi_x = k.hi_x;
              hi_some = again_some;
              lo_below = k.lo_there;
              hi_below = k.hi_there;
              counted = again_counted;
            } again_new)

      pub kept_sound : (j : ℕ) → j ≤ length N → Sound (K j)
      kept_sound zero h = rw kept_none record { ok = λ i l. absurd (omega arith); apart = λ i k l q s. absurd (omega arith) }
      kept_sound (suc j) h = by (keep (suc (suc j))) refl (kept_sound j (omega arith))
        where
          by : (b : Bool) → keep (suc (suc j)) ≡ b → Sound (K j) → Sound (K (suc j))
          by true e T = again_sound j h e T
          by false e T = rw (kept_no j e) T

      -- a kept number has the same set under its new number
      module _ (g : Moves) (j : ℕ) (w : j ≤ length N) where
        mem_deep : (b n : ℕ) → n < b → n < suc (suc j) → Kept keep n → (o : Order) → mem g (K j) (renumber keep n) o ≡ mem g N n o
        mem_deep zero n h q k o = absurd (omega arith)
        mem_deep (suc b) zero h q k o = rw renumber_zero (mem_zero g (K j) o ∙ sym (mem_zero g N o))
        mem_deep (suc b) (suc zero) h q k o = rw renumber_one (mem_one g (K j) o ∙ sym (mem_one g N o))
        mem_deep (suc b) (suc (suc i)) h q (inl k) o = absurd (omega arith)
        mem_deep (suc b) (suc (suc i)) h q (inr k) o =
            let l : i < length N = omega arith in
            let p = S.ok i l in
            let c = closed i l k in
            let low = mem_deep b (at N i).lo (omega arith) (omega arith) c.0 o in
            let high = mem_deep b (at N i).hi (omega arith) (omega arith) c.1 (back g (at N i).x (at N i).y o) in
            let there : rank keep i < length (K j) = omega (arith, kept_long j, rank_less i j k (omega arith)) in
            rw (renumber_node i)
            (mem_node g (K j) (kept_sound j w) (rank keep i) there o
            ∙ (rw (kept_at i j (omega arith) k) (ap₂ ◌||◌ low high)) ∙ sym (mem_node g N S i l o))

        pub kept_mem : (n : ℕ) → n < suc (suc j) → Kept keep n → (o : Order) → mem g (K j) (renumber keep n) o ≡ mem g N n o
        kept_mem n q k o = mem_deep (suc n) n (omega arith) q k o

-- tests that agree on a table's numbers keep the same
module _ (f h : ℕ → Bool) where
  pub rank_same : (i : ℕ) → ((n : ℕ) → n < suc (suc i) → f n ≡ h n) → rank f i ≡ rank h i
  unfolding rank
  rank_same zero s = refl
  rank_same (suc i) s = rw (s (suc (suc i)) (omega arith), rank_same i (λ n l. s n (omega arith)))

  pub renumber_same : (n : ℕ) → ((m : ℕ) → m < n → f m ≡ h m) → renumber f n ≡ renumber h n
  unfolding renumber
  renumber_same zero s = refl
  renumber_same (suc zero) s = refl
  renumber_same (suc (suc i)) s = ap (λ (k : ℕ). suc (suc k)) (rank_same i s)

  pub kept_same : (N : List Node) → Sound N → (i : ℕ) → i ≤ length N → ((n : ℕ) → n < suc (suc i) → f n ≡ h n) → kept_of f N i ≡ kept_of h N i
  unfolding kept_of
  kept_same N S zero w s = refl
  kept_same N S (suc i) w s =
      let k = S.ok i w in
      rw (
        s (suc (suc i)) (omega arith),
        kept_same N S i (omega arith) (λ n l. s n (omega arith)),
        renumber_same (at N i).lo (λ m l. s m (omega arith)),
        renumber_same (at N i).hi (λ m l. s m (omega arith)),
      )
