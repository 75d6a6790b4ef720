-- The chain of a bucket, and one node more in it. Assumes nothing.
use Rattle.std.proofs.Common.{◌≡◌, ℕ, zero, suc, ◌+◌, ◌-◌, ◌<◌, ◌≤◌, Bool, true, false, cond, eqb, ◌⊎◌, List, length, get_or, take, set, replicate, sym, refl, ap, ◌∙◌, subst, inl, inr, ⊎_elim, Some, None, Option, arith, length-take-le, get_or-set_other, get_or-set_same, eq-eqb, ne_eqb, eqb-true}
use lib.ListN.{get_or-replicate}
use borrow.Author.Tests.{eqb-false}
use Rattle.diagrams.specs.declared.Node.{Node}
use Rattle.diagrams.proofs.Pushes.{pushed, pushed_length, pushed_last, push_extends}
use Rattle.tables.specs.Hashing.{bucket, falls, last, none, Heads, Links}
use Rattle.tables.proofs.Rows.{take_more}

eq_by : (a b : ℕ) (t : Bool) → eqb a b ≡ t → (a ≡ b) ⊎ (¬ (a ≡ b))
eq_by a b true e = inl (eqb-true a b e)
eq_by a b false e = inr (eqb-false a b e)

pub eq_or_not : (a b : ℕ) → (a ≡ b) ⊎ (¬ (a ≡ b))
eq_or_not a b = eq_by a b (eqb a b) refl

-- the number, if there is one, is below that of the place j
abbrev pub Before : Option ℕ → ℕ → Type 0
Before None j = Unit {0}
Before (Some v) j = v < suc (suc j)

-- o is the number of the last node before k that falls into b, if there is one
pub record Last (f : ℕ → ℕ) (b k : ℕ) (o : Option ℕ) : Type 0 where
  pub some : (v : ℕ) → o ≡ Some v → (2 ≤ v) × (v < suc (suc k)) × (f (v - 2) ≡ b)
  pub none : (j : ℕ) → Before o j → j < k → ¬ (f j ≡ b)

pub inside : (v w : ℕ) → ◌≡◌ {A = Option ℕ} (Some v) (Some w) → v ≡ w
inside v w e = cc

pub not_some : (v : ℕ) → ◌≡◌ {A = Option ℕ} None (Some v) → ⊥
not_some v e = let z : ◌≡◌ {A = ℕ} 0 1 = cc in omega arith

module _ (f : ℕ → ℕ) (b : ℕ) where
  last_by : (k : ℕ) (o : Option ℕ) (t : Bool) → eqb (f k) b ≡ t → Last f b k o → Last f b (suc k) (cond t (Some (suc (suc k))) o)
  last_by k o true e r = record {
    some = λ v h. let same : suc (suc k) ≡ v = inside (suc (suc k)) v h in let z : v - 2 ≡ k = omega arith in (omega arith, omega arith, ap f z ∙ eqb-true (f k) b e);
    none = λ j h l. absurd (omega arith);
  }
  last_by k o false e r = record {
    some = λ v h. let q = r.some v h in (q.0, omega (arith, q.1), q.2);
    none = λ j h l. ⊎_elim
        (λ (q : j ≡ k). λ z. eqb-false (f k) b e (ap f (sym q) ∙ z))
        (λ (q : ¬ (j ≡ k)). r.none j h (omega arith))
        (eq_or_not j k);
  }

  pub last_is : (k : ℕ) → Last f b k (last f b k)
  unfolding last
  last_is zero = record { some = λ v e. absurd (not_some v e); none = λ j h l. absurd (omega arith) }
  last_is (suc k) = last_by k (last f b k) (eqb (f k) b) refl (last_is k)

  last_here : (k : ℕ) → f k ≡ b → last f b (suc k) ≡ Some (suc (suc k))
  unfolding last
  last_here k e = ap (λ t. cond t (Some (suc (suc k))) (last f b k)) (eq-eqb (f k) b e)

  last_other : (k : ℕ) → ¬ (f k ≡ b) → last f b (suc k) ≡ last f b k
  unfolding last
  last_other k ne = ap (λ t. cond t (Some (suc (suc k))) (last f b k)) (ne_eqb (f k) b ne)

-- what stands at k and after does not matter
last_same : (f g : ℕ → ℕ) (b k : ℕ) → ((i : ℕ) → i < k → f i ≡ g i) → last f b k ≡ last g b k
unfolding last
last_same f g b zero h = refl
last_same f g b (suc k) h =
    ap (λ v. cond (eqb v b) (Some (suc (suc k))) (last f b k)) (h k (omega arith))
    ∙ ap (cond (eqb (g k) b) (Some (suc (suc k)))) (last_same f g b k (λ i l. h i (omega arith)))

module _ (N : List Node) (a : Node) (b : ℕ) (is : b ≡ bucket a.x a.y a.lo a.hi) where
  abbrev M : List Node
  M = pushed N a

  abbrev k : ℕ
  k = length N

  same : (i : ℕ) → i < k → falls M i ≡ falls N i
  same i l = ap (λ (n : Node). bucket n.x n.y n.lo n.hi) ((push_extends N a).kept i l)

  here : falls M k ≡ b
  here = ap (λ (n : Node). bucket n.x n.y n.lo n.hi) (pushed_last N a) ∙ sym is

  before : (c i : ℕ) → i ≤ k → last (falls M) c i ≡ last (falls N) c i
  before c i l = last_same (falls M) (falls N) c i (λ j h. same j (omega arith))

  heads_push : (heads : List (Option ℕ)) → length heads ≡ 4096 → b < 4096 → Heads heads N → Heads (set heads b (Some (suc (suc k)))) M
  heads_push heads wide lt h c l = now ∙ ap (last (falls M) c) (sym (pushed_length N a))
    where
      now : get_or (set heads b (Some (suc (suc k)))) c none ≡ last (falls M) c (suc k)
      now = ⊎_elim
          (λ (e : c ≡ b).
          ap (λ v. get_or (set heads b (Some (suc (suc k)))) v none) e ∙ get_or-set_same heads b (Some (suc (suc k))) none (omega arith)
          ∙ sym (last_here (falls M) c k (here ∙ sym e)))
          (λ (ne : ¬ (c ≡ b)).
          get_or-set_other heads b c (Some (suc (suc k))) none ne ∙ h c l ∙ sym (before c k (omega arith))
          ∙ sym (last_other (falls M) c k (λ z. ne (sym z ∙ here))))
          (eq_or_not c b)

  links_push : (heads next : List (Option ℕ)) → k < length next → b < 4096 → Heads heads N → Links next N → Links (set next k (get_or heads b none)) M
  links_push heads next room lt h ls i l = ⊎_elim
      (λ (e : i ≡ k).
      ap (λ v. get_or (set next k (get_or heads b none)) v none) e ∙ get_or-set_same next k (get_or heads b none) none room
      ∙ h b lt ∙ sym (before b k (omega arith)) ∙ ap (λ v. last (falls M) v k) (sym here) ∙ ap (λ v. last (falls M) (falls M v) v) (sym e))
      (λ (ne : ¬ (i ≡ k)).
      let lt : i < k = omega (arith, pushed_length N a) in
      get_or-set_other next k i (get_or heads b none) none ne ∙ ls i lt ∙ sym (before (falls N i) i (omega arith))
      ∙ ap (λ v. last (falls M) v i) (sym (same i lt)))
      (eq_or_not i k)

-- a node written after the first k, and put at the head of its bucket
module _ (L : List Node) (k : ℕ) (a : Node) (b : ℕ) (is : b ≡ bucket a.x a.y a.lo a.hi) (lt : b < 4096) (room : k < length L) where
  abbrev N : List Node
  N = take k L

  long : length N ≡ k
  long = length-take-le k L (omega arith)

  pub heads_put : (heads : List (Option ℕ)) → length heads ≡ 4096 → Heads heads N → Heads (set heads b (Some (k + 2))) (take (k + 1) (set L k a))
  heads_put heads wide h =
      let two : suc (suc (length N)) ≡ k + 2 = omega (arith, long) in
      subst (Heads (set heads b (Some (k + 2)))) (sym (take_more L k a room))
      (subst (λ v. Heads (set heads b (Some v)) (pushed N a)) two (heads_push N a b is heads wide lt h))

  pub links_put : (heads next : List (Option ℕ)) → k < length next → Heads heads N → Links next N → Links (set next k (get_or heads b none)) (take (k + 1) (set L k a))
  links_put heads next r h ls =
      subst (Links (set next k (get_or heads b none))) (sym (take_more L k a room))
      (subst (λ v. Links (set next v (get_or heads b none)) (pushed N a)) long (links_push N a b is heads next (omega (arith, long)) lt h ls))

-- every bucket is empty
pub heads_none : (f : ℕ → ℕ) (m b : ℕ) → b < m → get_or (replicate m none) b none ≡ last f b 0
unfolding last
heads_none f m b h = get_or-replicate m b none none h
