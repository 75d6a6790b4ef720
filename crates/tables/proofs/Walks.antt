-- A walk along the chain of a bucket finds what a search from the front finds. Assumes nothing.
use Rattle.std.proofs.Common.{◌≡◌, ℕ, zero, suc, ◌-◌, ◌<◌, ◌≤◌, Bool, true, false, ◌⊎◌, List, [], ◌∷◌, length, get_or, Some, None, Option, sym, refl, ap, ◌∙◌, subst, inl, inr, ⊎_elim, le_refl, arith, le-ltb, lt-ltb}
use native.Mathlib.Decide.{dec_lt}
use Rattle.std.proofs.lemmas.Bool.Decides.{nat_tests}
use Rattle.diagrams.specs.declared.Node.{Node}
use Rattle.diagrams.specs.Table.{at, Same, Sound}
use Rattle.diagrams.specs.Rules.{is_node, first_by, first, find}
use Rattle.tables.specs.Hashing.{bucket, falls, last, none, Heads, Links}
use Rattle.tables.specs.Rows.{found}
use Rattle.tables.proofs.Chains.{Before, Last, last_is, eq_or_not}

module _ (p : Node → Bool) where
  -- the only one that passes is the first
  first_only : (N : List Node) (i : ℕ) → i < length N → p (at N i) ≡ true → ((j : ℕ) → j < i → p (at N j) ≡ false) → first p N ≡ i
  unfolding first
  first_only [] i l t h = absurd (omega arith)
  first_only (a ∷ N) zero l t h = ap (λ b. first_by b (first p N)) t
  first_only (a ∷ N) (suc i) l t h =
      ap (λ b. first_by b (first p N)) (h 0 (omega arith)) ∙ ap suc (first_only N i (omega arith) t (λ j k. h (suc j) (omega arith)))

  -- none passes
  first_past : (N : List Node) → ((j : ℕ) → j < length N → p (at N j) ≡ false) → first p N ≡ length N
  unfolding first
  first_past [] h = refl
  first_past (a ∷ N) h = ap (λ b. first_by b (first p N)) (h 0 (omega arith)) ∙ ap suc (first_past N (λ j k. h (suc j) (omega arith)))

before_or_not : (j k : ℕ) → (j < k) ⊎ (k ≤ j)
before_or_not j k = by (dec_lt j k)
  where
    by : Dec (j < k) → (j < k) ⊎ (k ≤ j)
    by (yes h) = inl h
    by (no h) = inr (omega arith)

has_values : (x y lo hi : ℕ) (a : Node) → is_node x y lo hi a ≡ true → (a.x ≡ x) × (a.y ≡ y) × (a.lo ≡ lo) × (a.hi ≡ hi)
has_values x y lo hi a t = (grind (arith, nat_tests), grind (arith, nat_tests), grind (arith, nat_tests), grind (arith, nat_tests))

module _ (N : List Node) (x y lo hi : ℕ) where
  abbrev here : ℕ → Bool
  here j = is_node x y lo hi (at N j)

  abbrev b : ℕ
  b = bucket x y lo hi

  -- a walk that has come to the number that o is, or to its end, and has passed by none with the values
  pub record Walk (o : Option ℕ) : Type 0 where
    pub some : (v : ℕ) → o ≡ Some v → (2 ≤ v) × (v - 2 < length N) × (falls N (v - 2) ≡ b)
    pub none : (j : ℕ) → Before o j → j < length N → here j ≡ false

  -- a node with the values falls into their bucket
  elsewhere : (j : ℕ) → ¬ (falls N j ≡ b) → here j ≡ false
  elsewhere j ne = by (here j) refl
    where
      by : (t : Bool) → here j ≡ t → here j ≡ false
      by true e = let q = has_values x y lo hi (at N j) e in let s : falls N j ≡ b = cc (q.0, q.1, q.2, q.3) in absurd (ne s)
      by false e = e

  walk_from : (k : ℕ) (o : Option ℕ) → k ≤ length N → o ≡ last (falls N) b k → ((j : ℕ) → k ≤ j → j < length N → here j ≡ false) → Walk o
  walk_from k o le e past =
      let l : Last (falls N) b k o = subst (Last (falls N) b k) (sym e) (last_is (falls N) b k) in
      record {
        some = λ v is. let q = l.some v is in (q.0, omega (arith, q.0, q.1), q.2);
        none = λ j h q. ⊎_elim
            (λ (e : j < k). elsewhere j (l.none j h e))
            (λ (e : k ≤ j). past j e q)
            (before_or_not j k);
      }

  pub walk_begin : (heads : List (Option ℕ)) (c : ℕ) → Heads heads N → c ≡ b → c < 4096 → Walk (get_or heads c none)
  walk_begin heads c h e lt = walk_from (length N) (get_or heads c none) (le_refl _) (h c lt ∙ ap (λ d. last (falls N) d (length N)) e) (λ j l q. absurd (omega arith))

  module _ (next : List (Option ℕ)) (v : ℕ) (ls : Links next N) (w : Walk (Some v)) where
    next_is : get_or next (v - 2) none ≡ last (falls N) b (v - 2)
    next_is = ls (v - 2) (w.some v refl).1 ∙ ap (λ d. last (falls N) d (v - 2)) (w.some v refl).2

    pub walk_on : here (v - 2) ≡ false → Walk (get_or next (v - 2) none)
    walk_on t = walk_from (v - 2) (get_or next (v - 2) none) (omega (arith, (w.some v refl).1)) next_is past
      where
        past : (j : ℕ) → v - 2 ≤ j → j < length N → here j ≡ false
        past j l q = ⊎_elim
            (λ (e : j ≡ v - 2). ap here e ∙ t)
            (λ (d : ¬ (j ≡ v - 2)). w.none j (omega (arith, (w.some v refl).0)) q)
            (eq_or_not j (v - 2))

    -- the numbers of a chain fall
    pub walk_less : (u : ℕ) → get_or next (v - 2) none ≡ Some u → u < v
    walk_less u e = let q = (last_is (falls N) b (v - 2)).some u (sym next_is ∙ e) in omega (arith, q.1, (w.some v refl).0)

  found_at : (i : ℕ) → find N x y lo hi ≡ i → i < length N → found N x y lo hi ≡ Some (suc (suc i))
  unfolding found
  found_at i e l = rw (e, lt-ltb i (length N) l)

  -- what is met is the only one
  pub walk_hit : (v : ℕ) → Sound N → Walk (Some v) → here (v - 2) ≡ true → Some v ≡ found N x y lo hi
  walk_hit v S w t =
      let place = first_only (is_node x y lo hi) N (v - 2) (w.some v refl).1 t (λ j l. other j l (here j) refl) in
      sym (found_at (v - 2) place (w.some v refl).1 ∙ ap (λ n. Some n) (two v (w.some v refl).0))
    where
      two : (n : ℕ) → 2 ≤ n → suc (suc (n - 2)) ≡ n
      two n h = omega arith

      other : (j : ℕ) → j < v - 2 → (s : Bool) → here j ≡ s → here j ≡ false
      other j l false e = e
      other j l true e =
          let q = has_values x y lo hi (at N j) e in
          let r = has_values x y lo hi (at N (v - 2)) t in
          let s : Same (at N j) (at N (v - 2)) = record { same_x = q.0 ∙ sym r.0; same_y = q.1 ∙ sym r.1; same_lo = q.2 ∙ sym r.2; same_hi = q.3 ∙ sym r.3 } in
          let z : j ≡ v - 2 = S.apart j (v - 2) (omega (arith, (w.some v refl).1)) (w.some v refl).1 s in
          absurd (omega arith)

  pub walk_end : Walk None → None ≡ found N x y lo hi
  unfolding found
  walk_end w =
      let z = first_past (is_node x y lo hi) N (λ j l. w.none j tt l) in
      rw (z, le-ltb (length N) (length N) (le_refl _)) refl
