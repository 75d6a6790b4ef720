use Rattle.std.proofs.Common.{◌≡◌, ℕ, ◌+◌, true, false, List, [], ◌∷◌, ◌++◌, length, Err, sym, ap, ◌∙◌, ap₂}
use Rattle.lists.specs.declared.node_line.NodeLine.{NodeLine}
use Rattle.lists.specs.Items.{items_of}
use Rattle.sheets.specs.declared.fault.Fault.{Fault}
use Rattle.sheets.specs.Faults.{bad_node}
use Rattle.sheets.specs.Lines.{values}
use Rattle.sheets.specs.Checks.{tabled, keeps, line_from, Outcome, rows}
use Rattle.sheets.proofs.Given.{given_ok, given_err}
use Rattle.sheets.proofs.Entries.{row_no_values, row_bad, row_good, gives_fault}
use Rattle.sheets.proofs.reader.Reader.read_row.Goals as goal

pub returns-in_err-values-clause-gives : goal.returns-in_err-values-clause-gives
returns-in_err-values-clause-gives c =
    let s = c.args.self.now in
    let ls = items_of s.lines.now in
    let text = c.args.text.now in
    let f = c.in_err-values.field-0.0 in
    let e = ap (λ n. values 4 (n + 4) text) (sym c.len.ensures) ∙ c.in_err-values.ensures in
    gives_fault (rows 1 s.pieces ls text) ls f c.from_residual.result c.from_residual.ensures.1 (row_no_values s.pieces ls text f e)

pub returns-in_err-branch-clause-gives : goal.returns-in_err-branch-clause-gives
returns-in_err-branch-clause-gives c =
    let s = c.args.self.now in
    let ls = items_of s.lines.now in
    let text = c.args.text.now in
    let ns = c.in_ok-values.values in
    let e = ap (λ n. values 4 (n + 4) text) (sym c.len.ensures) ∙ c.in_ok-values.ensures in
    let f = c.in_err-branch.field-0.0 in
    let no = given_err c.branch_of.result c.new.result c.ok_or.result c.ok_or.ensures.value _ _ c.branch_of.ensures f c.in_err-branch.was in
    let bad : keeps s.pieces (tabled ls) (line_from ns) ≡ false = ap₂ (keeps s.pieces) (sym s.tabled) (ap line_from c.from-line.ensures) ∙ no.0 in
    let fault : bad_node (length ls + 4) ≡ f = ap (λ n. bad_node (n + 4)) (sym c.len.ensures) ∙ sym (no.1 ∙ c.new.ensures) in
    gives_fault (rows 1 s.pieces ls text) ls f c.from_residual-in_err-branch.result c.from_residual-in_err-branch.ensures.1
    (row_bad s.pieces ls text ns c.in_ok-values.rest.now e bad ∙ ap (λ (g : Fault). (ls, Err g)) fault)

pub returns-clause-gives : goal.returns-clause-gives
returns-clause-gives c =
    let s = c.args.self.now in
    let ls = items_of s.lines.now in
    let text = c.args.text.now in
    let ns = c.in_ok-values.values in
    let e = ap (λ n. values 4 (n + 4) text) (sym c.len.ensures) ∙ c.in_ok-values.ensures in
    let yes = given_ok c.branch_of.result c.new.result c.ok_or.result c.ok_or.ensures.value _ _ c.branch_of.ensures c.in_ok-branch.branch c.in_ok-branch.was in
    let is : line_from ns ≡ c.from-line.result = ap line_from c.from-line.ensures in
    let good : keeps s.pieces (tabled ls) (line_from ns) ≡ true = ap₂ (keeps s.pieces) (sym s.tabled) is ∙ yes.0 in
    let o = row_good s.pieces ls text ns c.in_ok-values.rest.now e good in
    (c.enter.ensures.items ∙ ap (λ (a : NodeLine). ls ++ (a ∷ [])) (sym is) ∙ sym (ap (λ (p : Outcome (List ℕ)). p.0) o), ap (λ (p : Outcome (List ℕ)). p.1) o)
