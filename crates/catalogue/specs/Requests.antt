-- What is asked in a list, as calls, and what is answered, as replies. Assumes nothing.
use Rattle.std.specs.Prelude.{ℕ, ◌&&◌, List, None, Ok, Err, vec_items, Option, Result, Vec, nat_le}
use Rattle.orders.specs.declared.refusal.Refusal.{Refusal}
use Rattle.orders.specs.declared.refusal.Refusal.TheVariants.{OutOfRange}
use Rattle.store.specs.declared.hold.Hold.{Hold as HoldOf}
use Rattle.store.specs.declared.shapes.Handle.{Handle}
use Rattle.store.specs.declared.shapes.SetCall.{SetCall}
use Rattle.store.specs.declared.shapes.SetCall.TheVariants as set
use Rattle.store.specs.declared.shapes.SetCall.TheVariants.{Single, Join, Meet, Without, Carry, Follow, Pick}
use Rattle.store.specs.Views.{View}
use Rattle.store.specs.Questions.{ask, or_else, handle_asked}
use Rattle.store.specs.Steps as store
use Rattle.store.specs.Steps.{sets, adds, holds, releases, sweep, released, returned}
use Rattle.store.specs.Does.{found_reply, found_entries, handle_reply, sweep_reply}
use Rattle.catalogue.specs.declared.request.Name.{Name}
use Rattle.catalogue.specs.declared.request.Claim.{Claim}
use Rattle.catalogue.specs.declared.request.Request.{Request}
use Rattle.catalogue.specs.declared.request.Request.TheVariants.{Work, Add, Hold, Release, Sweep, Read, Len, Count, Fetch, Place, Held, Write}
use Rattle.catalogue.specs.declared.request.Answer.{Answer}
use Rattle.catalogue.specs.declared.request.Answer.TheVariants as answer
use Rattle.catalogue.specs.Calls.{Call, stores, reads, looks, standing, counts, fetches, places, handles, writes, Reply, stored, read, long, counted, fetched, placed, handled, written}

-- a handle and a hold that are named
abbrev pub handle_named : Name → Handle
handle_named n = record { season = n.season; number = n.number }

abbrev pub hold_named : Claim → HoldOf
hold_named c = record { mark = c.mark; peg = c.peg }

-- a call that works out a set, with what somebody names
abbrev pub Asked : Type 0
Asked = SetCall Name ℕ

-- the call that works out a set
abbrev pub set_call : Asked → SetCall Handle ℕ
set_call (Single o) = set.Single o
set_call (Join a b) = set.Join (handle_named a) (handle_named b)
set_call (Meet a b) = set.Meet (handle_named a) (handle_named b)
set_call (Without a b) = set.Without (handle_named a) (handle_named b)
set_call (Carry a o) = set.Carry (handle_named a) o
set_call (Follow a b) = set.Follow (handle_named a) (handle_named b)
set_call (Pick a k p) = set.Pick (handle_named a) k p

-- 6: a piece and a place that are more than 16 are no film's
unfoldable pub spot_fits : ℕ → ℕ → Option Refusal
spot_fits k p = ask (nat_le k 16 && nat_le p 16) OutOfRange None

-- the questions that are asked of what is named, before the call is made
abbrev pub names_asked : View → Asked → Option Refusal
names_asked w (Single o) = None
names_asked w (Join a b) = or_else (handle_asked w (handle_named a)) (handle_asked w (handle_named b))
names_asked w (Meet a b) = or_else (handle_asked w (handle_named a)) (handle_asked w (handle_named b))
names_asked w (Without a b) = or_else (handle_asked w (handle_named a)) (handle_asked w (handle_named b))
names_asked w (Carry a o) = handle_asked w (handle_named a)
names_asked w (Follow a b) = or_else (handle_asked w (handle_named a)) (handle_asked w (handle_named b))
names_asked w (Pick a k p) = or_else (handle_asked w (handle_named a)) (spot_fits k p)

-- how long the page is that a sheet is written on
abbrev pub page : ℕ
page = 40000

-- the call that a request makes
abbrev pub call_of : Request → Call
call_of (Work a) = stores (sets (set_call a))
call_of (Add line) = stores (adds line.x line.y line.lo line.hi)
call_of (Hold n p) = stores (holds (handle_named n) p)
call_of (Release c) = stores (releases (hold_named c))
call_of Sweep = stores sweep
call_of (Read text) = reads (vec_items text)
call_of Len = looks standing
call_of (Count n) = looks (counts (handle_named n))
call_of (Fetch n k) = looks (fetches (handle_named n) k)
call_of (Place n o) = looks (places (handle_named n) o)
call_of (Held c) = looks (handles (hold_named c))
call_of (Write n) = looks (writes (handle_named n) page)

-- a hold that was given
abbrev pub claim_reply : Result Claim Refusal → store.Reply
claim_reply (Ok c) = store.held (hold_named c)
claim_reply (Err e) = store.declined e

-- a hold that was given back, or was declined
abbrev pub end_reply : Result (Unit {0}) (Refusal × Claim) → store.Reply
end_reply (Ok u) = released
end_reply (Err p) = returned p.0 (hold_named p.1)

-- the bytes of a sheet
abbrev pub bytes_of : {Z : Type 0} → Result (Vec ℕ Z) Refusal → Result (List ℕ) Refusal
bytes_of (Ok v) = Ok (vec_items v)
bytes_of (Err e) = Err e

-- the reply that an answer is
abbrev pub reply_of : Answer → Reply
reply_of (answer.Worked r) = stored (found_reply r)
reply_of (answer.Added r) = stored (handle_reply r)
reply_of (answer.Held r) = stored (claim_reply r)
reply_of (answer.Released r) = stored (end_reply r)
reply_of (answer.Swept r) = stored (sweep_reply r)
reply_of (answer.Read r) = read r
reply_of (answer.Standing n) = long n
reply_of (answer.Counted r) = counted r
reply_of (answer.Fetched r) = fetched r
reply_of (answer.Placed r) = placed r
reply_of (answer.Handled r) = handled r
reply_of (answer.Written r) = written (bytes_of r)

-- and its entries
abbrev pub entries_of : Answer → ℕ
entries_of (answer.Worked r) = found_entries r
entries_of (answer.Added r) = 0
entries_of (answer.Held r) = 0
entries_of (answer.Released r) = 0
entries_of (answer.Swept r) = 0
entries_of (answer.Read r) = 0
entries_of (answer.Standing n) = 0
entries_of (answer.Counted r) = 0
entries_of (answer.Fetched r) = 0
entries_of (answer.Placed r) = 0
entries_of (answer.Handled r) = 0
entries_of (answer.Written r) = 0
