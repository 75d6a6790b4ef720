-- The holds that a replay has in hand. Assumes nothing.
use Rattle.std.specs.Prelude.{◌≡◌, ℕ, List, length, get_or, replicate, Some, None, vec_items, Option, slice_index_or, slice_set}
use Rattle.store.specs.declared.hold.Hold.{Hold}
use Rattle.store.specs.Views.{View, Pegs, with_pegs}
use Rattle.catalogue.specs.declared.rack.Rack.{Rack}
use Rattle.catalogue.specs.declared.request.Claim.{Claim}
use Rattle.catalogue.specs.Requests.{hold_named}

-- what each slot has: nothing, or a hold
abbrev pub Slots : Type 0
Slots = List (Option Hold)

abbrev pub slots_of : Rack → Slots
slots_of r = vec_items r.slots

-- the hold on a peg, if there is a set on it
abbrev pub hold_on : ℕ → ℕ → Option ℕ → Option Hold
hold_on mark peg None = None
hold_on mark peg (Some n) = Some (record { mark = mark; peg = peg })

-- every peg's hold is in the slot with the peg's number, and there are no other holds
abbrev pub Holding : View → Slots → Type 0
Holding w slots = (p : ℕ) → slice_index_or slots p None ≡ hold_on w.plan.mark p (slice_index_or w.pegs p None)

-- The rack has the holds of the store, and a slot for each peg.
pub record Racked (w : View) (slots : Slots) : Type 0 where
  pub long : length slots ≡ 64
  pub each : Holding w slots

-- the hold that is claimed is not in its slot
abbrev pub Lacks : Slots → Claim → Type 0
Lacks slots c = slice_index_or slots c.peg None ≡ Some (hold_named c) → ⊥

-- the hold that is claimed is in its slot, which is then emptied
pub record Took (before after : Slots) (c : Claim) (h : Hold) : Type 0 where
  pub hold : h ≡ hold_named c
  pub there : get_or before c.peg None ≡ Some h
  pub slots : after ≡ slice_set before c.peg None

-- all pegs empty
abbrev pub no_pegs : Pegs
no_pegs = replicate 64 None

-- a store whose holds were all given back
abbrev pub unpegged : View → View
unpegged w = with_pegs w no_pegs
