use Rattle.std.proofs.Common.{◌≡◌, ℕ, ◌+◌, List, length, Ok, Err, sym, ap, ◌∙◌, subst, ap₂, arith}
use Rattle.diagrams.specs.Table.{Sound}
use Rattle.tables.specs.Rows.{rows}
use Rattle.tables.proofs.Rows.{sound_of}
use Rattle.sheets.specs.Faults.{bad_line}
use Rattle.sheets.specs.Visits.{marks_in}
use Rattle.sheets.specs.Checks.{off, marks_of}
use Rattle.sheets.proofs.Given.{given_ok, given_err}
use Rattle.sheets.proofs.Endings.{marks_are, fault_is, off_none, off_some, some_left, none_left, finish_surplus, finish_off, finish_count, finish_ok}
use Rattle.sheets.proofs.checking.finish.Goals as goal
use Rattle.sheets.proofs.checking.finish.Goals.{After-numbered-visit}

pub returns-then-not-is_empty : goal.returns-then-not-is_empty
returns-then-not-is_empty c =
    ap Err (c.bad_line.ensures ∙ ap (λ n. bad_line (n + 4)) c.len-count.ensures.is)
    ∙ sym (finish_surplus (rows c.args.table.now) c.args.orders c.args.rest.now (some_left c.args.rest.now c.is_empty.result c.is_empty.ensures c.if-not-is_empty.true))

pub invariant_of-nodes : goal.invariant_of-nodes
invariant_of-nodes c = record {
  sound = ∣ subst Sound (sym c.nodes.ensures) (sound_of c.args.table.now) ∣₁;
  few = omega (arith, ap length c.nodes.ensures, c.len-count.ensures.is, c.len-count.ensures.within);
}

-- the search for a place in the marks that were left, and in those of the definition
marks_off : (c : After-numbered-visit) → off c.len-count.result 0 c.numbered-visit.result.marks ≡ off (length (rows c.args.table.now)) 0 (marks_of (rows c.args.table.now))
marks_off c =
    ap₂ (λ (n : ℕ) (ms : List ℕ). off n 0 ms) c.len-count.ensures.is
    (marks_are (rows c.args.table.now) c.nodes.result.now c.len-count.result (marks_in c.numbered-visit.result) c.nodes.ensures c.len-count.ensures.is c.numbered-visit.ensures.is)

pub returns-in-Some : goal.returns-in-Some
returns-in-Some c =
    let N = rows c.args.table.now in
    let v = c.numbered-visit.result in
    let w = c.in-Some.ensures in
    let one = off_some c.len-count.result c.in-Some.off v.marks (omega (arith, c.len-count.ensures.within, v.marked)) w.0 w.1 w.2 in
    ap Err c.new.ensures
    ∙ sym (finish_off N c.args.orders c.args.rest.now (none_left c.args.rest.now c.is_empty.result c.is_empty.ensures c.if-not-is_empty.false) c.in-Some.off (one.1 ∙ marks_off (goal.at.returns-in-Some c).After-numbered-visit)
    (omega (arith, one.0, c.len-count.ensures.is)))

pub returns-in_err-root : goal.returns-in_err-root
returns-in_err-root c =
    let N = rows c.args.table.now in
    let v = c.numbered-visit.result in
    let n = c.len-count.result in
    let f = c.in_err-root.field-0.0 in
    let own = off_none n v.marks (omega (arith, c.len-count.ensures.within, v.marked)) c.in_default.ensures in
    let no = given_err c.root_of.result c.new-2.result c.ok_or.result c.ok_or.ensures.value _ _ c.root_of.ensures f c.in_err-root.was in
    fault_is f c.from_residual.result c.from_residual.ensures.1 ∙ ap Err (no.1 ∙ c.new-2.ensures)
    ∙ sym (finish_count N c.args.orders c.args.rest.now (none_left c.args.rest.now c.is_empty.result c.is_empty.ensures c.if-not-is_empty.false)
    n (sym own ∙ marks_off (goal.at.returns-in_err-root c).After-numbered-visit) (omega (arith, c.len-count.ensures.is)) no.0)

pub returns : goal.returns
returns c =
    let N = rows c.args.table.now in
    let v = c.numbered-visit.result in
    let n = c.len-count.result in
    let own = off_none n v.marks (omega (arith, c.len-count.ensures.within, v.marked)) c.in_default.ensures in
    let yes = given_ok c.root_of.result c.new-2.result c.ok_or.result c.ok_or.ensures.value _ _ c.root_of.ensures c.in_ok-root.root c.in_ok-root.was in
    ap (λ (r : ℕ). Ok record { root = r; orders = c.args.orders }) yes.1
    ∙ sym (finish_ok N c.args.orders c.args.rest.now (none_left c.args.rest.now c.is_empty.result c.is_empty.ensures c.if-not-is_empty.false)
    n (sym own ∙ marks_off (goal.at.returns c).After-numbered-visit) (omega (arith, c.len-count.ensures.is)) yes.0)
