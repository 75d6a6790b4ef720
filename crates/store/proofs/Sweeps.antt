-- Pegs and holds over a sweep. Assumes nothing.
use Rattle.std.proofs.Common.{◌≡◌, ℕ, zero, suc, ◌<◌, true, false, ltb, List, [], ◌∷◌, map, length, get_or, Some, None, refl, ap, arith}
use Rattle.std.proofs.lemmas.Bool.Decides.{nat_tests}
use Rattle.orders.specs.declared.refusal.Refusal.TheVariants.{LastSeason}
use Rattle.diagrams.specs.declared.Node.{Node}
use Rattle.diagrams.specs.Moves.{Moves}
use Rattle.diagrams.specs.Table.{Sound}
use Rattle.sweeps.specs.Reaching.{Pegs as Pegged, held}
use Rattle.sweeps.specs.Sweeping.{on_peg, swept, renumbered, pegs_after}
use Rattle.sweeps.proofs.Laws.{sweep as sweep_law}
use Rattle.store.specs.Views.{View, Pegs}
use Rattle.store.specs.Steps.{declined, left, sweep, swept_view, season_asked, step}

-- a filled peg was filled before
peg_back : (f : ℕ → ℕ) (P : Pegs) (p m : ℕ) → get_or (map (on_peg f) P) p None ≡ Some m → (n : ℕ) × ((get_or P p None ≡ Some n) × (m ≡ f n))
peg_back f [] p m e = let z : ◌≡◌ {A = ℕ} 0 1 = cc in absurd (omega arith)
peg_back f (None ∷ P) zero m e = let z : ◌≡◌ {A = ℕ} 0 1 = cc in absurd (omega arith)
peg_back f (Some n ∷ P) zero m e = (n, (refl, cc))
peg_back f (o ∷ P) (suc p) m e = peg_back f P p m e

length-map_peg : (f : ℕ → ℕ) (P : Pegs) → length (map (on_peg f) P) ≡ length P
length-map_peg f [] = refl
length-map_peg f (o ∷ P) = ap suc (length-map_peg f P)

module _ (N : List Node) (P : Pegs) where
  pub pegs_long : length (pegs_after N P) ≡ length P
  unfolding pegs_after
  pegs_long = length-map_peg (renumbered N P) P

  pub pegs_there : Sound N → Pegged N P → Pegged (swept N P) (pegs_after N P)
  unfolding pegs_after
  pegs_there S there p m e =
      let b = peg_back (renumbered N P) P p m e in
      omega (arith, b.1.1, (sweep_law N P S there).there b.0 (held (p, b.1.0)))

module _ (g : Moves) (w : View) where
  pub sweep_fine : w.season < 4294967295 → (swept_view w, left (length (swept w.nodes w.pegs))) ≡ step g w sweep
  unfolding season_asked
  sweep_fine h = let t : ltb w.season 4294967295 ≡ true = grind (arith, nat_tests) in rw t refl

  pub sweep_last : w.season ≡ 4294967295 → (w, declined LastSeason) ≡ step g w sweep
  unfolding season_asked
  sweep_last h = let t : ltb w.season 4294967295 ≡ false = grind (arith, nat_tests) in rw t refl

-- the number on a filled peg, after
peg_on : (f : ℕ → ℕ) (P : Pegs) (p n : ℕ) → get_or P p None ≡ Some n → get_or (map (on_peg f) P) p None ≡ Some (f n)
peg_on f [] p n e = let z : ◌≡◌ {A = ℕ} 0 1 = cc in absurd (omega arith)
peg_on f (None ∷ P) zero n e = let z : ◌≡◌ {A = ℕ} 0 1 = cc in absurd (omega arith)
peg_on f (Some m ∷ P) zero n e = let z : m ≡ n = cc in ap (λ k. Some (f k)) z
peg_on f (o ∷ P) (suc p) n e = peg_on f P p n e

pub pegs_on : (N : List Node) (P : Pegs) (p n : ℕ) → get_or P p None ≡ Some n → get_or (pegs_after N P) p None ≡ Some (renumbered N P n)
unfolding pegs_after
pegs_on N P p n e = peg_on (renumbered N P) P p n e
