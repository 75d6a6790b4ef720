-- What agreement means, after every list of calls, for every chain and all caches that keep their laws. Assumes nothing.
--
-- A `View` is what a store is apart from its chain and its cache: its plan, its season, its nodes by number with all they
-- carry, and what each peg has. `Reached` says that a store was begun from a tested plan and has come by a list of calls,
-- each on what the earlier ones left, to where it is: sets worked out, nodes added, sets held and released, sweeps, sheets
-- read and written, counts and look-ups, in any order, handed anything, declined ones too.
use Rattle.std.specs.Prelude.{◌≡◌, ℕ, ◌↔◌, List, None}
use Rattle.orders.specs.declared.order.Order.{Order}
use Rattle.orders.specs.declared.chain.Chain as chain
use Rattle.caches.specs.declared.Cache as cache
use Rattle.diagrams.specs.Moves.{Moves}
use Rattle.diagrams.specs.Table.{In}
use Rattle.store.specs.declared.plan.Plan.{Plan}
use Rattle.store.specs.declared.shapes.Handle.{Handle}
use Rattle.store.specs.declared.store.Store.{Store}
use Rattle.store.specs.Views.{View, view}
use Rattle.store.specs.Questions.{handle_asked}
use Rattle.deposits.specs.Writing.{sheet_text}
use Rattle.catalogue.specs.Calls.{Call, Reply}
use Rattle.catalogue.specs.Runs.{Reached}

-- the store accepts the handle: the questions that every call asks of a handle decline nothing
abbrev pub Accepts : View → Handle → Type 0
Accepts w h = handle_asked w h ≡ None

-- the order o is in the set that the handle h stands for
abbrev pub Has : Moves → View → Handle → Order → Type 0
Has g w h o = In g w.nodes h.number o

-- two handles, of one store or of two, stand for the same set of orders
abbrev pub SameSet : Moves → View → Handle → View → Handle → Type 0
SameSet g w h v k = (o : Order) → Has g w h o ↔ Has g v k o

-- the bytes of the sheet that `write` puts on a page
abbrev pub sheet : ℕ → View → Handle → List ℕ
sheet code w h = sheet_text code w.nodes h.number

-- Stores of the chain G, with the caches C and D: `cg`, `cc` and `cd` are what the three say of themselves, the chain its code and its
-- moves, a cache what it remembers.
pub record Agreement (G C D : Type 0) (cg : chain.Ghosts G) (cc : cache.Ghosts C) (cd : cache.Ghosts D) : Type 0 where
  -- One store, after any list of calls: two handles that it accepts are equal exactly when they stand for the same orders.
  pub one_handle : (plan : Plan) (calls : List Call) (s : Store G C cg cc) (replies : List Reply) (entries : List ℕ) → Reached plan calls s replies entries
      → (h k : Handle) → Accepts (view s) h → Accepts (view s) k → (h ≡ k) ↔ SameSet cg.table (view s) h (view s) k
  -- Two stores begun alike, one with each cache, after the same calls: they have replied the same, refusals with all they
  -- tell too, and have the same nodes, pegs and season. Only the entries may differ.
  pub one_answer : (plan : Plan) (calls : List Call) (s : Store G C cg cc) (t : Store G D cg cd) (replies others : List Reply) (entries counts : List ℕ)
      → Reached plan calls s replies entries → Reached plan calls t others counts → (replies ≡ others) × (view s ≡ view t)
  -- Two stores begun from any plans, each after any list of its own: two sheets written from them are equal, byte for
  -- byte, exactly when their sets are.
  pub one_sheet : (plan scheme : Plan) (calls others : List Call) (s : Store G C cg cc) (t : Store G D cg cd) (replies answers : List Reply) (entries counts : List ℕ)
      → Reached plan calls s replies entries → Reached scheme others t answers counts
      → (h k : Handle) → Accepts (view s) h → Accepts (view t) k → (sheet cg.CODE (view s) h ≡ sheet cg.CODE (view t) k) ↔ SameSet cg.table (view s) h (view t) k
