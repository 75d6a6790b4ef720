-- Holds that a store has. Assumes nothing.
use Rattle.std.specs.Prelude.{◌≡◌, ℕ, length, Ok}
use Rattle.orders.specs.declared.refusal.Refusal.{Refusal}
use Rattle.diagrams.specs.Moves.{Moves}
use Rattle.store.specs.declared.hold.Hold.{Hold}
use Rattle.store.specs.declared.shapes.Handle.{Handle}
use Rattle.store.specs.Views.{View}
use Rattle.store.specs.Questions.{held_on}
use Rattle.store.specs.Steps.{After, held, returned, holds, releases, sweep, step}

-- the store has the hold: its mark is the store's, and its peg is filled
abbrev pub Holds : View → Hold → Type 0
Holds w h = (n : ℕ) × (held_on w h.mark h.peg ≡ Ok n)

-- What holds are good for, whatever the chain.
pub record HoldsStand (g : Moves) : Type 0 where
  -- a hold that was just given is the store's
  pub given : (w t : View) → length w.pegs ≡ 64 → (a : Handle) (p : ℕ) (h : Hold) → ◌≡◌ {A = After} (t, held h) (step g w (holds a p)) → Holds t h
  -- a sweep leaves it so
  pub lasts : (w t : View) (h : Hold) → (step g w sweep).0 ≡ t → Holds w h → Holds t h
  -- and it can be given back
  pub taken : (w t : View) (h b : Hold) (e : Refusal) → ◌≡◌ {A = After} (t, returned e b) (step g w (releases h)) → Holds w h → ⊥
