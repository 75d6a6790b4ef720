-- What a store is, apart from its chain and its cache. Assumes nothing.
use Rattle.std.specs.Prelude.{ℕ, List, Option}
use Rattle.diagrams.specs.declared.Node.{Node}
use Rattle.tables.specs.Rows.{rows}
use Rattle.orders.specs.declared.chain.Chain as chain
use Rattle.caches.specs.declared.Cache as cache
use Rattle.store.specs.declared.plan.Plan.{Plan}
use Rattle.store.specs.declared.store.Store.{Store}

abbrev pub Pegs : Type 0
Pegs = List (Option ℕ)

pub record View : Type 0 where
  pub plan : Plan
  pub season : ℕ
  -- the nodes in the order of their numbers, with all they carry
  pub nodes : List Node
  -- what each peg has: nothing, or the number of a set
  pub pegs : Pegs

abbrev pub view : {G C : Type 0} {cg : chain.Ghosts G} {cc : cache.Ghosts C} → Store G C cg cc → View
view s = record { plan = s.plan; season = s.season; nodes = rows s.engine.table; pegs = s.pegs }

-- how many nodes the store may have
abbrev pub room_of : View → ℕ
room_of w = w.plan.room.nodes

-- the same store with other nodes
abbrev pub with_nodes : View → List Node → View
with_nodes w N = record { plan = w.plan; season = w.season; nodes = N; pegs = w.pegs }

-- the same store with other pegs
abbrev pub with_pegs : View → Pegs → View
with_pegs w P = record { plan = w.plan; season = w.season; nodes = w.nodes; pegs = P }
