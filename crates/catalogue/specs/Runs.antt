-- Lists of calls, each made of what the earlier ones left. Assumes nothing.
use Rattle.std.specs.Prelude.{◌≡◌, ℕ, ◌-◌, ◌^◌, ◌≤◌, min, List, [], ◌∷◌}
use Rattle.orders.specs.declared.chain.Chain as chain
use Rattle.caches.specs.declared.Cache as cache
use Rattle.engine.specs.Answers.{Forgets}
use Rattle.store.specs.declared.plan.Plan.{Plan}
use Rattle.store.specs.declared.store.Store.{Store}
use Rattle.store.specs.Views.{View, view}
use Rattle.store.specs.Does.{Begun}
use Rattle.catalogue.specs.Calls.{Call, Reply, step, bare}

-- over stores of one chain and of one cache
module _ {G C : Type 0} {cg : chain.Ghosts G} {cc : cache.Ghosts C} where
  -- A call turns the store s into t, with this reply and these entries.
  pub record Does (s : Store G C cg cc) (call : Call) (t : Store G C cg cc) (reply : Reply) (entries : ℕ) : Type 0 where
    -- what the store is afterwards and what it replies are as `step` says, in which no cache occurs
    pub after : ◌≡◌ {A = View × Reply} (view t, reply) (step cg.CODE cg.table (view s) call)
    -- at most the bare rule's entries, and just those where the cache never remembers
    pub most : entries ≤ bare cg.table (view s) call
    pub just : Forgets C cc.recalls → entries ≡ min (bare cg.table (view s) call) (2 ^ 64 - 1)

  -- The calls of a list, one after another, turn one store into another, with these replies and entries.
  pub data Runs : Store G C cg cc → List Call → Store G C cg cc → List Reply → List ℕ → Type 0 where
    none : {s : Store G C cg cc} → Runs s [] s [] []
    then : {s t u : Store G C cg cc} {call : Call} {calls : List Call} {reply : Reply} {replies : List Reply} {n : ℕ} {entries : List ℕ}
        → Does s call t reply n → Runs t calls u replies entries → Runs s (call ∷ calls) u (reply ∷ replies) (n ∷ entries)

  -- A store that was begun from a tested plan, after the calls of a list.
  pub record Reached (plan : Plan) (calls : List Call) (s : Store G C cg cc) (replies : List Reply) (entries : List ℕ) : Type 0 where
    pub first : Store G C cg cc
    pub begun : Begun plan first
    pub runs : Runs first calls s replies entries
