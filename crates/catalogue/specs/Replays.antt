-- What a list of requests comes to. Assumes nothing.
use Rattle.std.specs.Prelude.{◌≡◌, ℕ, List, map, vec_items}
use Rattle.orders.specs.declared.chain.Chain as chain
use Rattle.caches.specs.declared.Cache as cache
use Rattle.store.specs.declared.plan.Plan.{Plan}
use Rattle.store.specs.declared.store.Store.{Store}
use Rattle.store.specs.Views.{view}
use Rattle.catalogue.specs.declared.request.Request.{Request}
use Rattle.catalogue.specs.declared.request.Answer.{Answer}
use Rattle.catalogue.specs.declared.playing.Transcript.{Transcript}
use Rattle.catalogue.specs.Calls.{Call, Reply}
use Rattle.catalogue.specs.Runs.{Runs, Reached}
use Rattle.catalogue.specs.Requests.{call_of, reply_of, entries_of}
use Rattle.catalogue.specs.Racks.{unpegged}

-- the calls of requests, and the replies and entries of answers
abbrev pub calls_of : List Request → List Call
calls_of qs = map call_of qs

abbrev pub replies_of : List Answer → List Reply
replies_of answers = map reply_of answers

abbrev pub counts_of : List Answer → List ℕ
counts_of answers = map entries_of answers

-- The requests, one after another, turn the store s into t, with these answers.
abbrev pub Played : {G C : Type 0} {cg : chain.Ghosts G} {cc : cache.Ghosts C} → Store G C cg cc → List Request → Store G C cg cc → List Answer → Type 0
Played s qs t answers = Runs s (calls_of qs) t (replies_of answers) (counts_of answers)

-- The store was begun from the plan and the requests were made of it in turn; then every hold was given back.
pub record Replayed {G C : Type 0} {cg : chain.Ghosts G} {cc : cache.Ghosts C} (plan : Plan) (qs : List Request) (r : Transcript G C cg cc) : Type 0 where
  -- the store after the last request
  pub last : Store G C cg cc
  -- it came to be by the calls of the requests, with just these answers and their entries
  pub reached : Reached plan (calls_of qs) last (replies_of (vec_items r.answers)) (counts_of (vec_items r.answers))
  -- the store that is handed over differs from it in its pegs alone, which are empty
  pub back : view r.store ≡ unpegged (view last)

-- Every store over another cache that comes to be by the same calls from the same plan replied what stands among the answers, and is the same
-- once its holds are given back.
abbrev pub Alike : {G C D : Type 0} {cg : chain.Ghosts G} {cc : cache.Ghosts C} → (cd : cache.Ghosts D) → Plan → List Request → Transcript G C cg cc → Type 0
Alike {G} {C} {D} {cg} cd plan qs r = (t : Store G D cg cd) (replies : List Reply) (counts : List ℕ) → Reached plan (calls_of qs) t replies counts
    → (replies_of (vec_items r.answers) ≡ replies) × (view r.store ≡ unpegged (view t))
