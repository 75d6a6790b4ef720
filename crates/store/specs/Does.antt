-- What a call's contract says. Assumes nothing.
use Rattle.std.specs.Prelude.{◌≡◌, ℕ, ◌-◌, ◌^◌, ◌≤◌, min, ◌↔◌, [], replicate, IfOk, Some, None, Ok, Err, Option, Result}
use Rattle.orders.specs.declared.order.Order.{Order}
use Rattle.orders.specs.declared.refusal.Refusal.{Refusal}
use Rattle.caches.specs.Recall.{Recalls}
use Rattle.diagrams.specs.Moves.{Moves}
use Rattle.diagrams.specs.Table.{In}
use Rattle.diagrams.specs.Bodies.{first_of}
use Rattle.diagrams.specs.Outright.{outright, kind_of, right_of}
use Rattle.diagrams.specs.Work.{Sought}
use Rattle.engine.specs.Answers.{Forgets}
use Rattle.orders.specs.declared.chain.Chain as chain
use Rattle.caches.specs.declared.Cache as cache
use Rattle.store.specs.declared.plan.Plan.{Plan}
use Rattle.engine.specs.declared.found.Found.{Found}
use Rattle.store.specs.declared.shapes.Handle.{Handle}
use Rattle.store.specs.declared.shapes.SetCall.{SetCall}
use Rattle.store.specs.declared.shapes.SetCall.TheVariants.{Single, Join, Meet, Without, Carry, Follow, Pick}
use Rattle.store.specs.declared.hold.Hold.{Hold}
use Rattle.store.specs.declared.hold.Returned.{Returned}
use Rattle.store.specs.declared.store.Store.{Store}
use Rattle.store.specs.Views.{View, view}
use Rattle.store.specs.Questions.{task_of}
use Rattle.store.specs.Steps.{Call, Reply, found, declined, held, released, returned, left, sets, step, bare}

-- A call turns the store s into t, with this reply and these entries.
pub record Does {G C : Type 0} {cg : chain.Ghosts G} {cc : cache.Ghosts C} (s : Store G C cg cc) (call : Call) (t : Store G C cg cc) (reply : Reply) (entries : ℕ) : Type 0 where
  -- what the store is afterwards and what it replies are as `step` says
  pub after : ◌≡◌ {A = View × Reply} (view t, reply) (step cg.table (view s) call)
  -- at most the bare rule's entries, and just those where the cache never remembers
  pub most : entries ≤ bare cg.table (view s) call
  pub just : Forgets C cc.recalls → entries ≡ min (bare cg.table (view s) call) (2 ^ 64 - 1)

-- the replies of the calls, and their entries
abbrev pub found_reply : Result (Found Handle) Refusal → Reply
found_reply (Ok f) = found f.set
found_reply (Err e) = declined e

abbrev pub found_entries : Result (Found Handle) Refusal → ℕ
found_entries (Ok f) = f.entries
found_entries (Err e) = 0

abbrev pub handle_reply : Result Handle Refusal → Reply
handle_reply (Ok h) = found h
handle_reply (Err e) = declined e

abbrev pub hold_reply : Result Hold Refusal → Reply
hold_reply (Ok h) = held h
hold_reply (Err e) = declined e

abbrev pub release_reply : Result (Unit {0}) Returned → Reply
release_reply (Ok u) = released
release_reply (Err b) = returned b.refusal b.hold

abbrev pub sweep_reply : Result ℕ Refusal → Reply
sweep_reply (Ok n) = left n
sweep_reply (Err e) = declined e

-- The orders that a call is to find, in words of orders.
abbrev pub Wanted : Moves → View → SetCall Handle ℕ → Order → Type 0
Wanted g w (Single h) o = o ≡ h
Wanted g w (Join a b) o = Sought g w.nodes (task_of (Join a b)) o
Wanted g w (Meet a b) o = Sought g w.nodes (task_of (Meet a b)) o
Wanted g w (Without a b) o = Sought g w.nodes (task_of (Without a b)) o
Wanted g w (Carry a h) o = Sought g w.nodes (task_of (Carry a h)) o
Wanted g w (Follow a b) o = Sought g w.nodes (task_of (Follow a b)) o
Wanted g w (Pick a k p) o = Sought g w.nodes (task_of (Pick a k p)) o

-- the triple of a call, as a cache remembers it
abbrev pub recalled : Recalls → SetCall Handle ℕ → Option ℕ
recalled rc call = rc (kind_of (task_of call)) (first_of (task_of call)) (right_of (task_of call))

-- a call that answered f: what holds of f
pub record Answers {G C : Type 0} {cg : chain.Ghosts G} {cc : cache.Ghosts C} (s : Store G C cg cc) (call : SetCall Handle ℕ) (t : Store G C cg cc) (f : Found Handle) : Type 0 where
  -- its set has just the orders that the call is to find
  pub set : (o : Order) → In cg.table (view t).nodes f.set.number o ↔ Wanted cg.table (view s) call o
  pub least : 1 ≤ f.entries
  -- one entry where the cache had the call's triple
  pub once : (v : ℕ) → recalled (cc.recalls s.engine.cache) call ≡ Some v → f.entries ≡ 1
  -- a sure cache has the call's triple afterwards, unless it is answered outright
  pub told : cc.SURE ≡ 1 → outright (task_of call) ≡ None → recalled (cc.recalls t.engine.cache) call ≡ Some f.set.number

-- What the contract of a call that works out a set says.
pub record WorksOut {G C : Type 0} {cg : chain.Ghosts G} {cc : cache.Ghosts C} (s : Store G C cg cc) (call : SetCall Handle ℕ) (t : Store G C cg cc) (r : Result (Found Handle) Refusal) : Type 0 where
  pub does : Does s (sets call) t (found_reply r) (found_entries r)
  pub answers : IfOk r (Answers s call t)

-- A store as it is begun: no node, no set held, in its plan's season.
abbrev pub fresh : Plan → View
fresh p = record { plan = p; season = p.season; nodes = []; pegs = replicate 64 None }

pub record Begun {G C : Type 0} {cg : chain.Ghosts G} {cc : cache.Ghosts C} (p : Plan) (s : Store G C cg cc) : Type 0 where
  pub view_is : view s ≡ fresh p
  -- the cache was emptied
  pub empty : (k a b : ℕ) → cc.recalls s.engine.cache k a b ≡ None
