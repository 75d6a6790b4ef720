-- The calls that change a store, and what each does to what the store is. Assumes nothing.
use Rattle.std.specs.Prelude.{ℕ, suc, ◌+◌, Bool, ◌&&◌, length, Some, None, Ok, Err, Option, Result, nat_le, nat_lt, slice_set}
use Rattle.orders.specs.declared.refusal.Refusal.{Refusal}
use Rattle.orders.specs.declared.refusal.Refusal.TheVariants.{NoRoom, LastSeason, BadNode}
use Rattle.diagrams.specs.Moves.{Moves}
use Rattle.diagrams.specs.Level.{level}
use Rattle.diagrams.specs.Table.{x_of, level_of}
use Rattle.diagrams.specs.Rules.{Outcome, done, full, node}
use Rattle.diagrams.specs.Work.{task}
use Rattle.store.specs.declared.shapes.Handle.{Handle}
use Rattle.store.specs.declared.shapes.SetCall.{SetCall}
use Rattle.sweeps.specs.Sweeping.{swept, pegs_after}
use Rattle.store.specs.declared.hold.Hold.{Hold}
use Rattle.store.specs.Views.{View, room_of, with_nodes, with_pegs}
use Rattle.store.specs.Questions.{ask, or_else, handle_asked, peg_asked, held_on, call_asked, task_of}

-- a call, with whatever it may be handed
pub data Call : Type 0 where
  -- a set is worked out
  sets : SetCall Handle ℕ → Call
  -- a node with four values is found or added
  adds : ℕ → ℕ → ℕ → ℕ → Call
  -- a set is put on a peg
  holds : Handle → ℕ → Call
  -- a hold is given back
  releases : Hold → Call
  -- what no peg reaches is dropped
  sweep : Call

-- what a call answers, apart from its entries
pub data Reply : Type 0 where
  found : Handle → Reply
  declined : Refusal → Reply
  held : Hold → Reply
  released : Reply
  -- a release that is declined hands the hold back
  returned : Refusal → Hold → Reply
  -- so many nodes are left
  left : ℕ → Reply

abbrev pub After : Type 0
After = View × Reply

-- a call that is declined by a question changes nothing
abbrev pub unless : Option Refusal → View → After → After
unless None w go = go
unless (Some e) w go = (w, declined e)

-- the handle of a number of this season
abbrev pub handle_of : View → ℕ → Handle
handle_of w n = record { season = w.season; number = n }

-- what work comes to: a set, or no room; the nodes that were made stay
abbrev pub worked : View → Outcome → After
worked w (done N r n) = (with_nodes w N, found (handle_of w r))
worked w (full N) = (with_nodes w N, declined NoRoom)

-- 16 ≥ x > y ≥ 1, x within the store's pieces, lo and hi numbers of the store, hi not 0, lo of lower level, hi of smaller x
unfoldable pub keeps_rules : View → ℕ → ℕ → ℕ → ℕ → Bool
keeps_rules w x y lo hi =
    (nat_le x w.plan.pieces && (nat_le 1 y && nat_lt y x))
    && ((nat_lt lo (suc (suc (length w.nodes))) && (nat_lt hi (suc (suc (length w.nodes))) && nat_le 1 hi))
    && (nat_lt (level_of w.nodes lo) (level x y) && nat_lt (x_of w.nodes hi) x))

-- 16: does the node keep the rules?
unfoldable pub node_asked : View → ℕ → ℕ → ℕ → ℕ → Option Refusal
node_asked w x y lo hi = ask (keeps_rules w x y lo hi) BadNode None

-- the handle on the peg of a hold
abbrev pub handle_at : View → Result ℕ Refusal → Result Handle Refusal
handle_at w (Ok n) = Ok (handle_of w n)
handle_at w (Err e) = Err e

abbrev pub handle_held : View → Hold → Result Handle Refusal
handle_held w h = handle_at w (held_on w h.mark h.peg)

-- the peg of a hold is emptied, if the hold is the store's
abbrev pub released_by : View → Hold → Result ℕ Refusal → After
released_by w h (Ok n) = (with_pegs w (slice_set w.pegs h.peg None), released)
released_by w h (Err e) = (w, returned e h)

-- 11: is the season not the last?
unfoldable pub season_asked : View → Option Refusal
season_asked w = ask (nat_lt w.season 4294967295) LastSeason None

-- what is left is what the pegs reach, with new numbers and in a new season
abbrev pub swept_view : View → View
swept_view w = record { plan = w.plan; season = w.season + 1; nodes = swept w.nodes w.pegs; pegs = pegs_after w.nodes w.pegs }

-- What each call does, by the chain's moves g: its questions, and then the rule of work.
abbrev pub step : Moves → View → Call → After
step g w (sets call) = unless (call_asked w call) w (worked w (task g (room_of w) w.nodes (task_of call)))
step g w (adds x y lo hi) = unless (node_asked w x y lo hi) w (worked w (node (room_of w) w.nodes x y lo hi 0))
step g w (holds h p) =
    unless (or_else (handle_asked w h) (peg_asked w p)) w
    (with_pegs w (slice_set w.pegs p (Some h.number)), held (record { mark = w.plan.mark; peg = p }))
step g w (releases h) = released_by w h (held_on w h.mark h.peg)
step g w sweep = unless (season_asked w) w (swept_view w, left (length (swept w.nodes w.pegs)))

-- the entries of the bare rule, none where the call is declined
abbrev pub entries_in : Outcome → ℕ
entries_in (done N r n) = n
entries_in (full N) = 0

abbrev pub entries_if : Option Refusal → ℕ → ℕ
entries_if None n = n
entries_if (Some e) n = 0

abbrev pub bare : Moves → View → Call → ℕ
bare g w (sets call) = entries_if (call_asked w call) (entries_in (task g (room_of w) w.nodes (task_of call)))
bare g w (adds x y lo hi) = 0
bare g w (holds h p) = 0
bare g w (releases h) = 0
bare g w sweep = 0
