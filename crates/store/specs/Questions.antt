-- The questions of the calls, in their order: the first no declines. Assumes nothing.
use Rattle.std.specs.Prelude.{ℕ, suc, Bool, true, false, not, ◌&&◌, length, is_some, Some, None, Ok, Err, Option, Result, ◌==◌, nat_le, nat_lt, slice_index_or}
use Rattle.orders.specs.declared.order.Order.{Order}
use Rattle.orders.specs.declared.refusal.Refusal.{Refusal}
use Rattle.orders.specs.declared.refusal.Refusal.TheVariants.{BadPieces, BadCapacity, OtherSeason, NoSuchNumber, OutOfRange, NoSuchPeg, PegFilled, NoSuchHold, PastEnd}
use Rattle.orders.specs.Dimension.{dimension}
use Rattle.diagrams.specs.declared.Task.{Task}
use Rattle.diagrams.specs.declared.Task.TheVariants as tasks
use Rattle.store.specs.declared.shapes.Handle.{Handle}
use Rattle.store.specs.declared.shapes.SetCall.{SetCall}
use Rattle.store.specs.declared.shapes.SetCall.TheVariants.{Single, Join, Meet, Without, Carry, Follow, Pick}
use Rattle.store.specs.Views.{View}

-- no question is left
abbrev pub fine : Option Refusal
fine = None

-- a question, and then the others: a no is the refusal e
abbrev pub ask : Bool → Refusal → Option Refusal → Option Refusal
ask true e rest = rest
ask false e rest = Some e

-- the questions of one thing, and then those of another
abbrev pub or_else : Option Refusal → Option Refusal → Option Refusal
or_else None rest = rest
or_else (Some e) rest = Some e

-- what a call answers: the refusal of its questions, or the value
abbrev pub answered : {A : Type 0} → Option Refusal → A → Result A Refusal
answered None v = Ok v
answered (Some e) v = Err e

-- 1: 2 to 16 pieces? 2: room for 1 to 2,046 nodes?
unfoldable pub plan_asked : ℕ → ℕ → Option Refusal
plan_asked pieces capacity = ask (nat_le 2 pieces && nat_le pieces 16) BadPieces (ask (nat_le 1 capacity && nat_le capacity 2046) BadCapacity None)

-- 5: does the number exist?
unfoldable pub number_asked : View → ℕ → Option Refusal
number_asked w n = ask (nat_lt n (suc (suc (length w.nodes)))) NoSuchNumber None

-- 4: is the handle's season the store's? 5: does its number exist?
unfoldable pub handle_asked : View → Handle → Option Refusal
handle_asked w h = ask (h.season == w.season) OtherSeason (number_asked w h.number)

-- 6: does the order move no piece beyond the store's?
unfoldable pub order_asked : View → Order → Option Refusal
order_asked w o = ask (nat_le (dimension o) w.plan.pieces) OutOfRange None

-- 6: are the piece and the place within the store's, from 1?
unfoldable pub spot_asked : View → ℕ → ℕ → Option Refusal
spot_asked w k p = ask ((nat_le 1 k && nat_le k w.plan.pieces) && (nat_le 1 p && nat_le p w.plan.pieces)) OutOfRange None

-- the questions of a call that works out a set
abbrev pub call_asked : View → SetCall Handle ℕ → Option Refusal
call_asked w (Single o) = order_asked w o
call_asked w (Join a b) = or_else (handle_asked w a) (handle_asked w b)
call_asked w (Meet a b) = or_else (handle_asked w a) (handle_asked w b)
call_asked w (Without a b) = or_else (handle_asked w a) (handle_asked w b)
call_asked w (Carry a o) = or_else (handle_asked w a) (order_asked w o)
call_asked w (Follow a b) = or_else (handle_asked w a) (handle_asked w b)
call_asked w (Pick a k p) = or_else (handle_asked w a) (spot_asked w k p)

-- its task on the numbers of the table; single is the carried standing order
abbrev pub task_of : SetCall Handle ℕ → Task
task_of (Single o) = tasks.Carry 1 o
task_of (Join a b) = tasks.Join a.number b.number
task_of (Meet a b) = tasks.Meet a.number b.number
task_of (Without a b) = tasks.Without a.number b.number
task_of (Carry a o) = tasks.Carry a.number o
task_of (Follow a b) = tasks.Follow a.number b.number
task_of (Pick a k p) = tasks.Pick a.number k p

-- 8: is the peg one of 0 to 63? 9: is it empty?
unfoldable pub peg_asked : View → ℕ → Option Refusal
peg_asked w p = ask (nat_lt p 64) NoSuchPeg (ask (not (is_some (slice_index_or w.pegs p None))) PegFilled None)

-- 10: has the hold this store's mark, and a filled peg? If so, the number on the peg.
abbrev pub on_peg : Bool → Option ℕ → Result ℕ Refusal
on_peg false p = Err NoSuchHold
on_peg true None = Err NoSuchHold
on_peg true (Some n) = Ok n

unfoldable pub held_on : View → ℕ → ℕ → Result ℕ Refusal
held_on w mark peg = on_peg (mark == w.plan.mark && nat_lt peg 64) (slice_index_or w.pegs peg None)

-- 12: is there an order with the number?
abbrev pub or_past : Option Refusal → Option Order → Result Order Refusal
or_past (Some e) o = Err e
or_past None (Some o) = Ok o
or_past None None = Err PastEnd
