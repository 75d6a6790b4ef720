use Rattle.std.proofs.Common.{Ok, Err, sym, refl, ap, ◌∙◌, zero-le}
use Rattle.std.proofs.lemmas.Result.{err_from_is_err_and}
use Rattle.diagrams.specs.Rules.{node}
use Rattle.tables.specs.Rows.{rows, Makes}
use Rattle.tables.proofs.Rows.{sound_of}
use Rattle.engine.proofs.Outcomes.{makes_done, makes_full}
use Rattle.store.specs.Views.{view, with_nodes}
use Rattle.store.specs.Steps.{found, declined}
use Rattle.store.proofs.Racks.{pegged_more}
use Rattle.store.proofs.Added.{keeps_asks, add_fine, add_bad, add_grown}
use Rattle.store.proofs.store.Store.add.Goals as goal

pub returns-in_err-branch : goal.returns-in_err-branch
returns-in_err-branch g c =
    let l = c.args.line in
    let f = c.in_err-branch.ensures in
    let p = err_from_is_err_and c.from_residual.result c.from_residual.ensures.1 in
    rw (p.1, p.2, f.is) (record {
      after = sym (add_bad (view c.args.self.now) l.x l.y l.lo l.hi g.G.Chain.table f.breaks);
      most = zero-le;
      just = λ never. refl;
    })

pub add-requires : goal.add-requires
add-requires g c = let s = c.in_ok-branch.ensures in rw s.is (keeps_asks _ _ _ _ _ s.keeps).0

pub invariant_of-self : goal.invariant_of-self
invariant_of-self g c =
    let s = c.args.self.now in
    let b = c.in_ok-branch.ensures in
    record {
      long = s.long;
      pegged = pegged_more (rows s.engine.table) _ s.pegs
          (add_grown g.G.Chain.table _ (rows s.engine.table) (sound_of s.engine.table) _ _ _ _ (rw b.is (keeps_asks _ _ _ _ _ b.keeps).0) _ _ (c.add.ensures.rule 0)) s.pegged;
      roomed = c.add.ensures.room ∙ s.roomed;
    }

pub returns-in_err-number : goal.returns-in_err-number
returns-in_err-number g c =
    let s = c.args.self.now in
    let w = view s in
    let l = c.args.line in
    let b = c.in_ok-branch.ensures in
    let N = rows c.add.new.self.table in
    let rule : Makes (node w.plan.room.nodes w.nodes l.x l.y l.lo l.hi 0) N 0 (Err c.in_err-number.field-0.0) = rw (b.is, s.roomed) at (c.in_err-number.ensures.rule 0) in
    let f = makes_full _ N 0 _ rule in
    let p = err_from_is_err_and c.from_residual-in_err-number.result c.from_residual-in_err-number.ensures.1 in
    rw (p.1, p.2) (record {
      after = ap (λ e. (with_nodes w N, declined e)) f.1 ∙ add_fine w l.x l.y l.lo l.hi g.G.Chain.table _ b.keeps f.0;
      most = zero-le;
      just = λ never. refl;
    })

pub returns : goal.returns
returns g c =
    let s = c.args.self.now in
    let w = view s in
    let l = c.args.line in
    let b = c.in_ok-branch.ensures in
    let N = rows c.add.new.self.table in
    let rule : Makes (node w.plan.room.nodes w.nodes l.x l.y l.lo l.hi 0) N 0 (Ok c.in_ok-number.number) = rw (b.is, s.roomed) at (c.in_ok-number.ensures.rule 0) in
    record {
      after = ap (λ h. (with_nodes w N, found h)) c.handle.ensures ∙ add_fine w l.x l.y l.lo l.hi g.G.Chain.table _ b.keeps (makes_done _ N 0 _ rule);
      most = zero-le;
      just = λ never. refl;
    }
