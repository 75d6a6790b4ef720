use Rattle.std.proofs.Common.{◌≡◌, ◌-◌, ◌^◌, min, Some, None, Ok, sym, ap, ◌∙◌, subst, zero-le}
use Rattle.std.proofs.lemmas.Result.{err_from_is_err_and}
use Rattle.diagrams.specs.Work.{Valid}
use Rattle.diagrams.specs.Bodies.{first_of}
use Rattle.diagrams.specs.Outright.{outright, kind_of, right_of}
use Rattle.engine.specs.Answers.{Once}
use Rattle.engine.proofs.Outcomes.{as_done, as_full}
use Rattle.tables.specs.Rows.{rows}
use Rattle.tables.proofs.Rows.{sound_of}
use Rattle.store.specs.Views.{view, with_nodes}
use Rattle.store.specs.Steps.{found, declined}
use Rattle.store.proofs.Racks.{pegged_more}
use Rattle.store.proofs.Worked.{valid, accepted, grown, same_work, once_is, step_is, bare_is, set_is}
use Rattle.store.proofs.store.Store.work.Goals as goal

pub solve-requires : goal.solve-requires
solve-requires g c =
    let w = view c.args.self.now in
    let yes = accepted _ _ _ c.in_ok-task.ensures in
    subst (Valid w.nodes) (sym yes.1) (valid w c.args.call yes.0)

pub invariant_of-self : goal.invariant_of-self
invariant_of-self g c =
    let s = c.args.self.now in
    let w = view s in
    let yes = accepted _ _ _ c.in_ok-task.ensures in
    let v = subst (Valid w.nodes) (sym yes.1) (valid w c.args.call yes.0) in
    record {
      long = s.long;
      pegged = pegged_more w.nodes _ s.pegs (grown _ g.G.Chain.table g.met.G.Chain.laws _ w.nodes c.in_ok-task.task (sound_of s.engine.table) v _ _ c.solve.ensures.rule) s.pegged;
      roomed = c.solve.ensures.room ∙ s.roomed;
    }

pub returns-in_err-found : goal.returns-in_err-found
returns-in_err-found g c =
    let s = c.args.self.now in
    let w = view s in
    let t = g.G.Chain.table in
    let call = c.args.call in
    let yes = accepted _ _ _ c.in_ok-task.ensures in
    let same = same_work t w.nodes _ _ _ _ (ap (λ r. r.nodes) s.roomed) yes.1 in
    let solved = c.in_err-found.ensures in
    let f = as_full _ _ _ _ solved.rule in
    let is = same ∙ f.0 in
    let p = err_from_is_err_and c.from_residual-in_err-found.result c.from_residual-in_err-found.ensures.1 in
    rw (p.1, p.2) (record {
      does = record {
        after = ap (λ e. (with_nodes w (rows c.solve.new.self.table), declined e)) f.1 ∙ step_is t w call yes.0 _ is;
        most = zero-le;
        just = λ never. ap (λ n. min n (2 ^ 64 - 1)) (sym (bare_is t w call yes.0 _ is));
      };
      answers = tt;
    })

pub returns : goal.returns
returns g c =
    let s = c.args.self.now in
    let w = view s in
    let t = g.G.Chain.table in
    let call = c.args.call in
    let yes = accepted _ _ _ c.in_ok-task.ensures in
    let same = same_work t w.nodes _ _ _ _ (ap (λ r. r.nodes) s.roomed) yes.1 in
    let solved = c.in_ok-found.ensures in
    let d = as_done _ _ _ _ solved.rule in
    let is = same ∙ d.is in
    let recalls_before = g.C.Cache.recalls s.engine.cache in
    let recalls_after = g.C.Cache.recalls c.solve.new.self.cache in
    record {
      does = record {
        after = ap (λ h. (with_nodes w (rows c.solve.new.self.table), found h)) c.handle.ensures ∙ step_is t w call yes.0 _ is;
        most = rw (bare_is t w call yes.0 _ is) d.counts.most;
        just = λ never. rw (bare_is t w call yes.0 _ is) (d.counts.just never);
      };
      answers = record {
        set = rw c.handle.ensures (set_is t w call yes.0 g.met.G.Chain.laws (sound_of s.engine.table) _ _ _ is);
        least = d.counts.least;
        once = λ v e. once_is _ _ v (subst (λ u. Once (recalls_before (kind_of u) (first_of u) (right_of u)) (Ok c.in_ok-found.found)) yes.1 solved.once) e;
        told = rw c.handle.ensures (subst (λ u. g.C.Cache.SURE ≡ 1 → outright u ≡ None → recalls_after (kind_of u) (first_of u) (right_of u) ≡ Some c.in_ok-found.found.set) yes.1 solved.told);
      };
    }
