use Rattle.std.proofs.Common.{is_some, ◌≡◌, sym, subst, ap, ◌∙◌, true, false, MatchOption}
use Rattle.tables.specs.Rows.{rows}
use Rattle.tables.proofs.Rows.{rows_within}
use Rattle.sheets.specs.Checks.{keeps}
use Rattle.sheets.specs.Reading.{branch_line}
use Rattle.sheets.proofs.Keeps.{keeps_new, keeps_not}
use Rattle.sheets.proofs.Entries.{keeps_wide, branched, too_wide, branch_kept}
use Rattle.sheets.proofs.rules.branch_of.Goals as goal
use Rattle.sheets.proofs.rules.branch_of.Goals.{then-may_stand, else-may_stand}

pub returns-in_err-branch : goal.returns-in_err-branch
returns-in_err-branch c =
    subst (λ o. MatchOption o (keeps c.args.pieces (rows c.args.table.now) c.args.line ≡ false)
    (λ b. (keeps c.args.pieces (rows c.args.table.now) c.args.line ≡ true) × (branch_line b ≡ c.args.line)))
    (sym c.from_residual.ensures)
    (keeps_wide c.args.pieces (rows c.args.table.now) c.args.line (rows_within c.args.table.now)
    (too_wide c.args.line c.try_from.result c.try_from.ensures c.in_err-branch.ensures.value))

pub returns : goal.returns
returns c =
    let N = rows c.args.table.now in
    let b = c.in_ok-branch.branch in
    let line = branch_line b in
    let is : c.if-may_stand.keeps ≡ keeps c.args.pieces N line =
    elim c.if-may_stand.branch [
      | then-may_stand w ↦ w.keeps-is ∙ keeps_new c.args.pieces N line (sym c.may_stand.ensures ∙ w.if-may_stand.true) w.is_none-keeps.result (ap is_some (sym w.find.ensures) ∙ w.is_none-keeps.ensures)
      | else-may_stand w ↦ w.keeps-is ∙ w.if-may_stand.false ∙ keeps_not c.args.pieces N line (sym c.may_stand.ensures ∙ w.if-may_stand.false)
    ] in
    let same = branched c.args.line c.try_from.result c.try_from.ensures c.in_ok-branch.branch c.in_ok-branch.ensures.value in
    branch_kept c.args.pieces N c.args.line c.in_ok-branch.branch c.if-may_stand.keeps c.then_some.result c.then_some.ensures
    (is ∙ ap (keeps c.args.pieces N) same) same
