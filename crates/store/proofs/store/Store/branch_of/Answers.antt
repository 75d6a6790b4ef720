use Rattle.std.proofs.Common.{ap, refl, true, false}
use Rattle.std.proofs.lemmas.Result.{err_from_is_err_and}
use Rattle.tables.specs.Rows.{rows}
use Rattle.tables.proofs.Rows.{rows_within}
use Rattle.store.specs.Views.{view}
use Rattle.store.proofs.Added.{large_breaks, keeps_by}
use Rattle.store.proofs.store.Store.branch_of.Goals as goal

pub returns-in_err-branch : goal.returns-in_err-branch
returns-in_err-branch g c =
    let l = c.args.line in
    let large = c.in_err-branch.ensures in
    let p = err_from_is_err_and c.from_residual.result c.from_residual.ensures.1 in
    rw (p.1, p.2) (record {
      breaks = large_breaks (view c.args.self.now) l.x l.y l.lo l.hi (rows_within c.args.self.now.engine.table)
          (λ s. large.1 (record { x_small = s.0; y_small = s.1; lo_small = s.2; hi_small = s.3 }));
      is = large.0;
    })

pub returns-then-not-may_stand : goal.returns-then-not-may_stand
returns-then-not-may_stand g c =
    let l = c.args.line in
    record {
      breaks = keeps_by (view c.args.self.now) l.x l.y l.lo l.hi (rows c.table.result.now) c.pieces.result c.in_ok-branch.branch c.may_stand.result false
          (ap rows c.table.ensures) c.pieces.ensures c.in_ok-branch.ensures c.may_stand.ensures c.if-not-may_stand.true;
      is = refl;
    }

pub returns : goal.returns
returns g c =
    let l = c.args.line in
    record {
      keeps = keeps_by (view c.args.self.now) l.x l.y l.lo l.hi (rows c.table.result.now) c.pieces.result c.in_ok-branch.branch c.may_stand.result true
          (ap rows c.table.ensures) c.pieces.ensures c.in_ok-branch.ensures c.may_stand.ensures c.if-not-may_stand.false;
      is = c.in_ok-branch.ensures;
    }
