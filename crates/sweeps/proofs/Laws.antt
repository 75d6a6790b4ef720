-- The law of sweeps. Assumes nothing.
use Rattle.std.proofs.Common.{◌≡◌, ℕ, zero, suc, ◌≤◌, List, [], ◌∷◌, map, length, get_or, Some, Option, sym, ap, ◌∙◌, inr, arith}
use Rattle.diagrams.specs.declared.Node.{Node}
use Rattle.diagrams.specs.Table.{at, Exists, Sound, lo_of, hi_of}
use Rattle.sweeps.specs.Reaching.{empty, Pegs, Reached, low, high, reached}
use Rattle.sweeps.specs.Sweeping.{on_peg, renumber, swept, renumbered, pegs_after}
use Rattle.sweeps.specs.Marks.{Kept, Closed}
use Rattle.sweeps.specs.Theorems.{Sweep}
use Rattle.sweeps.proofs.Leads.{reached_there, reached_found, found_is_reached}
use Rattle.sweeps.proofs.Keeps.{kept_there, kept_x, kept_y, kept_count, kept_lo, kept_hi, kept_from, kept_sound, kept_mem, renumber_zero, renumber_one, renumber_node, renumber_less}

peg_moved : (f : ℕ → ℕ) (pegs : List (Option ℕ)) (p n : ℕ) → get_or pegs p empty ≡ Some n → get_or (map (on_peg f) pegs) p empty ≡ Some (f n)
peg_moved f [] p n e = let z : ◌≡◌ {A = ℕ} 0 1 = cc in absurd (omega arith)
peg_moved f (q ∷ pegs) zero n e = ap (on_peg f) e
peg_moved f (q ∷ pegs) (suc p) n e = peg_moved f pegs p n e

module _ (N : List Node) (pegs : List (Option ℕ)) (S : Sound N) (P : Pegs N pegs) where
  -- what is reached is closed under parts
  node_parts : (i : ℕ) → Reached N pegs (suc (suc i)) → Reached N pegs (at N i).lo × Reached N pegs (at N i).hi
  unfolding lo_of hi_of
  node_parts i R = (low (omega arith) R, high (omega arith) R)

  pub reached_closed : Closed (reached N pegs) N
  reached_closed i l e =
      let r = node_parts i (found_is_reached N pegs S P (suc (suc i)) e) in
      (inr (reached_found N pegs S P _ r.0), inr (reached_found N pegs S P _ r.1))

  kept : (n : ℕ) → Reached N pegs n → Kept (reached N pegs) n
  kept n R = inr (reached_found N pegs S P n R)

  no_other : (m : ℕ) → 2 ≤ m → Exists (swept N pegs) m → (n : ℕ) × ((2 ≤ n) × (Exists N n × (Reached N pegs n × (renumbered N pegs n ≡ m))))
  unfolding swept renumbered
  no_other zero h e = absurd (omega arith)
  no_other (suc zero) h e = absurd (omega arith)
  no_other (suc (suc k)) h e =
      let r = kept_from (reached N pegs) N (length N) k (omega arith) in
      (suc (suc r.0), (omega arith, (omega (arith, r.1.0), (found_is_reached N pegs S P _ r.1.1.0, renumber_node (reached N pegs) r.0 ∙ ap (λ (i : ℕ). suc (suc i)) r.1.1.1))))

  pub sweep : Sweep N pegs
  unfolding swept renumbered pegs_after
  sweep = record {
    tells = λ n e. (found_is_reached N pegs S P n, reached_found N pegs S P n);
    sound = kept_sound (reached N pegs) N S reached_closed (length N) (omega arith);
    there = λ n R. kept_there (reached N pegs) N (length N) n (reached_there N pegs S P n R) (kept n R);
    same_set = λ g n R o.
        let m = kept_mem (reached N pegs) N S reached_closed g (length N) (omega arith) n (reached_there N pegs S P n R) (kept n R) o in
        (λ i. sym m ∙ i, λ i. m ∙ i);
    same_count = λ n R. kept_count (reached N pegs) N (length N) n (reached_there N pegs S P n R) (kept n R);
    same_x = λ n R. kept_x (reached N pegs) N (length N) n (reached_there N pegs S P n R) (kept n R);
    same_y = λ n R. kept_y (reached N pegs) N (length N) n (reached_there N pegs S P n R) (kept n R);
    same_lo = λ n R. kept_lo (reached N pegs) N (length N) n (reached_there N pegs S P n R) (kept n R);
    same_hi = λ n R. kept_hi (reached N pegs) N (length N) n (reached_there N pegs S P n R) (kept n R);
    ends = (renumber_zero (reached N pegs), renumber_one (reached N pegs));
    in_order = λ n m R Q l. renumber_less (reached N pegs) n m (kept n R) l;
    no_other = no_other;
    held = λ p n e. peg_moved (renumber (reached N pegs)) pegs p n e;
  }
