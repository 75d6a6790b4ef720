-- The calls of the catalogue, and what each does to what a store is. Assumes nothing.
use Rattle.std.specs.Prelude.{ℕ, Bool, true, false, List, length, Some, None, Ok, Err, Option, Result, nat_le}
use Rattle.orders.specs.declared.order.Order.{Order}
use Rattle.orders.specs.declared.refusal.Refusal.{Refusal}
use Rattle.orders.specs.declared.refusal.Refusal.TheVariants.{ShortPage}
use Rattle.diagrams.specs.Moves.{Moves}
use Rattle.diagrams.specs.Table.{count_of}
use Rattle.numbering.specs.Numbered.{order_at, place_of}
use Rattle.store.specs.declared.hold.Hold.{Hold}
use Rattle.store.specs.declared.shapes.Handle.{Handle}
use Rattle.store.specs.Views.{View}
use Rattle.store.specs.Questions.{answered, or_else, or_past, handle_asked, order_asked}
use Rattle.store.specs.Steps as store
use Rattle.store.specs.Steps.{handle_held}
use Rattle.sheets.specs.declared.fault.Fault.{Fault}
use Rattle.deposits.specs.Writing.{sheet_text}
use Rattle.deposits.specs.Reading as deposits

-- a call that changes nothing, with whatever it may be handed
pub data Look : Type 0 where
  -- how many nodes stand
  standing : Look
  -- how many orders a set has
  counts : Handle → Look
  -- the order of a set with a number
  fetches : Handle → ℕ → Look
  -- the number of an order in a set
  places : Handle → Order → Look
  -- the handle of a set that is held
  handles : Hold → Look
  -- the sheet of a set, on a page of that many bytes
  writes : Handle → ℕ → Look

-- a call, with whatever it may be handed
pub data Call : Type 0 where
  -- a set is worked out, a node found or added, a set held or released, or the store is swept
  stores : store.Call → Call
  -- any bytes are read as a sheet
  reads : List ℕ → Call
  looks : Look → Call

-- what a call answers, apart from its entries; a refusal with all that it tells
pub data Reply : Type 0 where
  stored : store.Reply → Reply
  read : Result Handle Fault → Reply
  long : ℕ → Reply
  counted : Result ℕ Refusal → Reply
  fetched : Result Order Refusal → Reply
  placed : Result (Option ℕ) Refusal → Reply
  handled : Result Handle Refusal → Reply
  written : Result (List ℕ) Refusal → Reply

abbrev pub After : Type 0
After = View × Reply

-- the bytes of a sheet, if the handle is accepted and the page is long enough
abbrev pub fits_on : Bool → List ℕ → Result (List ℕ) Refusal
fits_on true text = Ok text
fits_on false text = Err ShortPage

abbrev pub sheet_on : Option Refusal → List ℕ → ℕ → Result (List ℕ) Refusal
sheet_on (Some e) text room = Err e
sheet_on None text room = fits_on (nat_le (length text) room) text

-- what is seen of a store, by the chain with this code and these moves
abbrev pub look : ℕ → Moves → View → Look → Reply
look code g w standing = long (length w.nodes)
look code g w (counts h) = counted (answered (handle_asked w h) (count_of w.nodes h.number))
look code g w (fetches h k) = fetched (or_past (handle_asked w h) (order_at g w.nodes h.number k))
look code g w (places h o) = placed (answered (or_else (handle_asked w h) (order_asked w o)) (place_of g w.nodes h.number o))
look code g w (handles d) = handled (handle_held w d)
look code g w (writes h room) = written (sheet_on (handle_asked w h) (sheet_text code w.nodes h.number) room)

-- the reply of one of the store's own calls, and of reading a sheet, as the catalogue has it
abbrev pub as_stored : store.After → After
as_stored a = (a.0, stored a.1)

abbrev pub as_read : View × Result Handle Fault → After
as_read a = (a.0, read a.1)

-- What each call does: the store's own calls and the reading of sheets by their own definitions.
abbrev pub step : ℕ → Moves → View → Call → After
step code g w (stores call) = as_stored (store.step g w call)
step code g w (reads text) = as_read (deposits.reads code w text)
step code g w (looks l) = (w, look code g w l)

-- the entries of the bare rule
abbrev pub bare : Moves → View → Call → ℕ
bare g w (stores call) = store.bare g w call
bare g w (reads text) = 0
bare g w (looks l) = 0
