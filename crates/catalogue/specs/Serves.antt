-- What one request of a list comes to. Assumes nothing.
use Rattle.std.specs.Prelude.{ℕ, Result}
use Rattle.orders.specs.declared.refusal.Refusal.{Refusal}
use Rattle.orders.specs.declared.chain.Chain as chain
use Rattle.caches.specs.declared.Cache as cache
use Rattle.engine.specs.declared.found.Found.{Found}
use Rattle.store.specs.declared.shapes.Handle.{Handle}
use Rattle.store.specs.declared.store.Store.{Store}
use Rattle.store.specs.Steps.{sets, holds, releases}
use Rattle.store.specs.Does as store
use Rattle.store.specs.Does.{found_reply, found_entries}
use Rattle.catalogue.specs.declared.request.Request.{Request}
use Rattle.catalogue.specs.declared.request.Answer.{Answer}
use Rattle.catalogue.specs.Runs.{Does}
use Rattle.catalogue.specs.Requests.{Asked, handle_named, hold_named, set_call, claim_reply, end_reply, call_of, reply_of, entries_of}
use Rattle.catalogue.specs.declared.request.Name.{Name}
use Rattle.catalogue.specs.declared.request.Claim.{Claim}

module _ {G C : Type 0} {cg : chain.Ghosts G} {cc : cache.Ghosts C} where
  -- a set is worked out, held, or let go as the store's own call says
  abbrev pub Works : Store G C cg cc → Asked → Store G C cg cc → Result (Found Handle) Refusal → Type 0
  Works s a t r = store.Does s (sets (set_call a)) t (found_reply r) (found_entries r)

  abbrev pub Holds : Store G C cg cc → Name → ℕ → Store G C cg cc → Result Claim Refusal → Type 0
  Holds s n p t r = store.Does s (holds (handle_named n) p) t (claim_reply r) 0

  abbrev pub Releases : Store G C cg cc → Claim → Store G C cg cc → Result (Unit {0}) (Refusal × Claim) → Type 0
  Releases s c t r = store.Does s (releases (hold_named c)) t (end_reply r) 0

  -- the request's call turns the store s into t, with this answer
  abbrev pub Serves : Store G C cg cc → Request → Store G C cg cc → Answer → Type 0
  Serves s q t a = Does s (call_of q) t (reply_of a) (entries_of a)
