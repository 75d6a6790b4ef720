-- The test of what is reached tells what is reached. Assumes nothing.
use Rattle.std.proofs.Common.{◌≡◌, ℕ, zero, suc, ◌≤◌, Bool, true, false, ◌&&◌, ◌||◌, eqb, ltb, ◌⊎◌, List, [], ◌∷◌, get_or, Some, None, Option, refl, ap, ◌∙◌, subst, inl, inr, arith, ltb-true, lt-ltb, eq-eqb, eqb-true}
use Rattle.std.proofs.lemmas.Bool.{and_parts}
use mathlib.Core.Bool.{false≢true}
use Rattle.diagrams.specs.declared.Node.{Node}
use Rattle.diagrams.specs.Table.{Exists, Sound, lo_of, hi_of}
use Rattle.diagrams.proofs.Bools.{or_split, or_left, or_right}
use Rattle.diagrams.proofs.Numbers.{parts}
use Rattle.sweeps.specs.Reaching.{empty, Pegged, Pegs, Reached, held, low, high, leads, reached}

and_true : (a b : Bool) → a ≡ true → b ≡ true → (a && b) ≡ true
and_true true b h k = k
and_true false b h k = h

-- m is a part of the node n
abbrev Part : List Node → ℕ → ℕ → Type 0
Part N n m = (lo_of N n ≡ m) ⊎ (hi_of N n ≡ m)

module _ (N : List Node) where
  leads_self : (d r n : ℕ) → r ≡ n → leads d N r n ≡ true
  unfolding leads
  leads_self zero r n e = eq-eqb r n e
  leads_self (suc d) r n e = or_left (eqb r n) _ (eq-eqb r n e)

  leads_into : (d r n : ℕ) → 2 ≤ r → (leads d N (lo_of N r) n ≡ true) ⊎ (leads d N (hi_of N r) n ≡ true) → leads (suc d) N r n ≡ true
  unfolding leads
  leads_into d r n h (inl e) = or_right (eqb r n) _ (and_true (ltb 1 r) _ (lt-ltb 1 r h) (or_left _ _ e))
  leads_into d r n h (inr e) = or_right (eqb r n) _ (and_true (ltb 1 r) _ (lt-ltb 1 r h) (or_right (leads d N (lo_of N r) n) _ e))

  leads_out : (d r n : ℕ) → leads (suc d) N r n ≡ true → (r ≡ n) ⊎ ((2 ≤ r) × ((leads d N (lo_of N r) n ≡ true) ⊎ (leads d N (hi_of N r) n ≡ true)))
  unfolding leads
  leads_out d r n e = by (or_split (eqb r n) _ e)
    where
      by : (eqb r n ≡ true) ⊎ ((ltb 1 r && (leads d N (lo_of N r) n || leads d N (hi_of N r) n)) ≡ true)
          → (r ≡ n) ⊎ ((2 ≤ r) × ((leads d N (lo_of N r) n ≡ true) ⊎ (leads d N (hi_of N r) n ≡ true)))
      by (inl q) = inl (eqb-true r n q)
      by (inr q) = let w = and_parts (ltb 1 r) _ q in inr (ltb-true 1 r w.0, or_split _ _ w.1)

  -- one step more leads to the parts
  leads_on : (d r n m : ℕ) → 2 ≤ n → Part N n m → leads d N r n ≡ true → leads (suc d) N r m ≡ true
  leads_on zero r n m h p e = here (unfold leads in eqb-true r n e) p
    where
      here : r ≡ n → Part N n m → leads 1 N r m ≡ true
      here q (inl w) = leads_into 0 r m (omega arith) (inl (leads_self 0 (lo_of N r) m (ap (lo_of N) q ∙ w)))
      here q (inr w) = leads_into 0 r m (omega arith) (inr (leads_self 0 (hi_of N r) m (ap (hi_of N) q ∙ w)))
  leads_on (suc d) r n m h p e = by (leads_out d r n e) (leads_on d (lo_of N r) n m h p) (leads_on d (hi_of N r) n m h p)
    where
      here : r ≡ n → Part N n m → leads (suc (suc d)) N r m ≡ true
      here q (inl w) = leads_into (suc d) r m (omega arith) (inl (leads_self (suc d) (lo_of N r) m (ap (lo_of N) q ∙ w)))
      here q (inr w) = leads_into (suc d) r m (omega arith) (inr (leads_self (suc d) (hi_of N r) m (ap (hi_of N) q ∙ w)))

      by : (r ≡ n) ⊎ ((2 ≤ r) × ((leads d N (lo_of N r) n ≡ true) ⊎ (leads d N (hi_of N r) n ≡ true)))
          → (leads d N (lo_of N r) n ≡ true → leads (suc d) N (lo_of N r) m ≡ true) → (leads d N (hi_of N r) n ≡ true → leads (suc d) N (hi_of N r) m ≡ true)
          → leads (suc (suc d)) N r m ≡ true
      by (inl q) a b = here q p
      by (inr (l, inl q)) a b = leads_into (suc d) r m l (inl (a q))
      by (inr (l, inr q)) a b = leads_into (suc d) r m l (inr (b q))

  module _ (S : Sound N) where
    -- a walk from r is no longer than r
    leads_short : (d r n : ℕ) → Exists N r → r ≤ d → leads (suc d) N r n ≡ true → leads d N r n ≡ true
    leads_short zero r n e h q = by (leads_out 0 r n q)
      where
        by : (r ≡ n) ⊎ ((2 ≤ r) × ((leads 0 N (lo_of N r) n ≡ true) ⊎ (leads 0 N (hi_of N r) n ≡ true))) → leads 0 N r n ≡ true
        by (inl w) = leads_self 0 r n w
        by (inr w) = absurd (omega (arith, w.0))
    leads_short (suc d) r n e h q = by (leads_out (suc d) r n q) (leads_short d (lo_of N r) n) (leads_short d (hi_of N r) n)
      where
        by : (r ≡ n) ⊎ ((2 ≤ r) × ((leads (suc d) N (lo_of N r) n ≡ true) ⊎ (leads (suc d) N (hi_of N r) n ≡ true)))
            → (Exists N (lo_of N r) → lo_of N r ≤ d → leads (suc d) N (lo_of N r) n ≡ true → leads d N (lo_of N r) n ≡ true)
            → (Exists N (hi_of N r) → hi_of N r ≤ d → leads (suc d) N (hi_of N r) n ≡ true → leads d N (hi_of N r) n ≡ true) → leads (suc d) N r n ≡ true
        by (inl w) a b = leads_self (suc d) r n w
        by (inr (l, inl w)) a b = let p = parts N S r e l in leads_into d r n l (inl (a (omega (arith, p.lo_below)) (omega (arith, p.lo_below)) w))
        by (inr (l, inr w)) a b = let p = parts N S r e l in leads_into d r n l (inr (b (omega (arith, p.hi_below)) (omega (arith, p.hi_below)) w))

    -- with a node its parts
    part_reached : (pegs : List (Option ℕ)) → Pegs N pegs → (n m : ℕ) → 2 ≤ n → Part N n m → reached N pegs n ≡ true → reached N pegs m ≡ true
    unfolding reached
    part_reached [] P n m h p e = absurd (false≢true e)
    part_reached (None ∷ pegs) P n m h p e = part_reached pegs (λ i k q. P (suc i) k q) n m h p e
    part_reached (Some r ∷ pegs) P n m h p e = by (or_split (leads r N r n) _ e) (part_reached pegs (λ i k q. P (suc i) k q) n m h p)
      where
        by : (leads r N r n ≡ true) ⊎ (reached N pegs n ≡ true) → (reached N pegs n ≡ true → reached N pegs m ≡ true) → (leads r N r m || reached N pegs m) ≡ true
        by (inl q) a = or_left _ _ (leads_short r r m (P 0 r refl) (omega arith) (leads_on r r n m h p q))
        by (inr q) a = or_right (leads r N r m) _ (a q)

  root_reached : (pegs : List (Option ℕ)) (p n : ℕ) → get_or pegs p empty ≡ Some n → reached N pegs n ≡ true
  unfolding reached
  root_reached [] p n e = let z : ◌≡◌ {A = ℕ} 0 1 = cc in absurd (omega arith)
  root_reached (None ∷ pegs) zero n e = let z : ◌≡◌ {A = ℕ} 0 1 = cc in absurd (omega arith)
  root_reached (None ∷ pegs) (suc p) n e = root_reached pegs p n e
  root_reached (Some r ∷ pegs) zero n e = or_left (leads r N r n) _ (leads_self r r n (cc))
  root_reached (Some r ∷ pegs) (suc p) n e = or_right (leads r N r n) _ (root_reached pegs p n e)

  -- what the test finds is reached
  leads_reached : (pegs : List (Option ℕ)) (d r n : ℕ) → Reached N pegs r → leads d N r n ≡ true → Reached N pegs n
  leads_reached pegs zero r n R e = let q : r ≡ n = unfold leads in eqb-true r n e in subst (Reached N pegs) q R
  leads_reached pegs (suc d) r n R e = by (leads_out d r n e) (leads_reached pegs d (lo_of N r) n) (leads_reached pegs d (hi_of N r) n)
    where
      by : (r ≡ n) ⊎ ((2 ≤ r) × ((leads d N (lo_of N r) n ≡ true) ⊎ (leads d N (hi_of N r) n ≡ true)))
          → (Reached N pegs (lo_of N r) → leads d N (lo_of N r) n ≡ true → Reached N pegs n) → (Reached N pegs (hi_of N r) → leads d N (hi_of N r) n ≡ true → Reached N pegs n)
          → Reached N pegs n
      by (inl q) a b = subst (Reached N pegs) q R
      by (inr (l, inl q)) a b = a (low l R) q
      by (inr (l, inr q)) a b = b (high l R) q

  found_reached : (all pegs : List (Option ℕ)) (n : ℕ) → ((p m : ℕ) → get_or pegs p empty ≡ Some m → Pegged all m) → reached N pegs n ≡ true → Reached N all n
  unfolding reached
  found_reached all [] n f e = absurd (false≢true e)
  found_reached all (None ∷ pegs) n f e = found_reached all pegs n (λ p m q. f (suc p) m q) e
  found_reached all (Some r ∷ pegs) n f e = by (or_split (leads r N r n) _ e) (found_reached all pegs n (λ p m q. f (suc p) m q))
    where
      by : (leads r N r n ≡ true) ⊎ (reached N pegs n ≡ true) → (reached N pegs n ≡ true → Reached N all n) → Reached N all n
      by (inl q) a = leads_reached all r r n (held (f 0 r refl)) q
      by (inr q) a = a q

module _ (N : List Node) (pegs : List (Option ℕ)) (S : Sound N) (P : Pegs N pegs) where
  -- what is reached is there
  pub reached_there : (n : ℕ) → Reached N pegs n → Exists N n
  reached_there n (held (p, e)) = P p n e
  reached_there _ (low {n} l R) = let e = reached_there n R in let p = parts N S n e l in omega (arith, p.lo_below)
  reached_there _ (high {n} l R) = let e = reached_there n R in let p = parts N S n e l in omega (arith, p.hi_below)

  pub reached_found : (n : ℕ) → Reached N pegs n → reached N pegs n ≡ true
  reached_found n (held (p, e)) = root_reached N pegs p n e
  reached_found _ (low {n} l R) = part_reached N S pegs P n (lo_of N n) l (inl refl) (reached_found n R)
  reached_found _ (high {n} l R) = part_reached N S pegs P n (hi_of N n) l (inr refl) (reached_found n R)

  pub found_is_reached : (n : ℕ) → reached N pegs n ≡ true → Reached N pegs n
  found_is_reached n e = found_reached N pegs pegs n (λ p m q. (p, q)) e
