-- Requests, one after another. Assumes nothing.
use Rattle.std.proofs.Common.{◌≡◌, ℕ, ◌+◌, ◌<◌, ◌≤◌, List, [], ◌∷◌, ◌++◌, length, get_or, take, vec_items, sym, ap, ◌∙◌, subst, take_all}
use Rattle.std.proofs.lemmas.List.{map-append, map_more}
use Rattle.orders.specs.declared.chain.Chain as chain
use Rattle.caches.specs.declared.Cache as cache
use Rattle.store.specs.declared.plan.Plan.{Plan}
use Rattle.store.specs.declared.store.Store.{Store}
use Rattle.catalogue.specs.declared.request.Request.{Request}
use Rattle.catalogue.specs.declared.request.Answer.{Answer}
use Rattle.catalogue.specs.declared.playing.Transcript.{Transcript}
use Rattle.catalogue.specs.Calls.{Call, Reply}
use Rattle.catalogue.specs.Runs.{Does, Runs, none, then}
use Rattle.catalogue.specs.Agreement.{Agreement}
use Rattle.catalogue.specs.Requests.{call_of, reply_of, entries_of}
use Rattle.catalogue.specs.Racks.{unpegged}
use Rattle.catalogue.specs.Replays.{calls_of, replies_of, counts_of, Played, Replayed, Alike}

module _ {G C : Type 0} {cg : chain.Ghosts G} {cc : cache.Ghosts C} where
  -- one call more at the end of a run
  runs_then : {s t u : Store G C cg cc} {calls : List Call} {replies : List Reply} {counts : List ℕ} {call : Call} {reply : Reply} {n : ℕ}
      → Runs s calls t replies counts → Does t call u reply n → Runs s (calls ++ call ∷ []) u (replies ++ reply ∷ []) (counts ++ n ∷ [])
  runs_then none d = then d none
  runs_then (then e r) d = then e (runs_then r d)

  -- no request yet
  pub played_none : (s : Store G C cg cc) (qs : List Request) → Played s (take 0 qs) s []
  played_none s qs = none

  -- the request at i
  pub played_more : (s t u : Store G C cg cc) (qs : List Request) (i : ℕ) (q : Request) (answers bs : List Answer) (a : Answer) → i < length qs → q ≡ get_or qs i q → bs ≡ answers ++ a ∷ []
      → Played s (take i qs) t answers → Does t (call_of q) u (reply_of a) (entries_of a) → Played s (take (i + 1) qs) u bs
  played_more s t u qs i q answers bs a h at all p d =
      let calls : calls_of (take (i + 1) qs) ≡ calls_of (take i qs) ++ call_of q ∷ [] = map_more call_of qs i q h ∙ ap (λ x. calls_of (take i qs) ++ call_of x ∷ []) (sym at) in
      let replies : replies_of bs ≡ replies_of answers ++ reply_of a ∷ [] = ap replies_of all ∙ map-append reply_of answers (a ∷ []) in
      let counts : counts_of bs ≡ counts_of answers ++ entries_of a ∷ [] = ap counts_of all ∙ map-append entries_of answers (a ∷ []) in
      subst (λ (c : List Call). Runs s c u (replies_of bs) (counts_of bs)) (sym calls)
      (subst (λ (r : List Reply). Runs s (calls_of (take i qs) ++ call_of q ∷ []) u r (counts_of bs)) (sym replies)
      (subst (λ (n : List ℕ). Runs s (calls_of (take i qs) ++ call_of q ∷ []) u (replies_of answers ++ reply_of a ∷ []) n) (sym counts) (runs_then p d)))

  -- all of them
  pub played_all : (s t : Store G C cg cc) (qs : List Request) (i : ℕ) (answers : List Answer) → length qs ≤ i → Played s (take i qs) t answers → Played s qs t answers
  played_all s t qs i answers h p = subst (λ (x : List Request). Played s x t answers) (take_all i qs h) p

  -- a replay agrees with every other run of its calls
  pub alike : {D : Type 0} (cd : cache.Ghosts D) (plan : Plan) (qs : List Request) (r : Transcript G C cg cc) → Agreement G C D cg cc cd → Replayed plan qs r → Alike {D = D} cd plan qs r
  alike cd plan qs r all p t replies counts reached =
      let same = all.one_answer plan (calls_of qs) p.last t (replies_of (vec_items r.answers)) replies (counts_of (vec_items r.answers)) counts p.reached reached in
      (same.0, p.back ∙ ap unpegged same.1)
