use Rattle.std.proofs.Common.{◌≡◌, ℕ, List, length, Result, sym, ap, ◌∙◌, ap₂, arith}
use Rattle.std.proofs.lemmas.Grind.{common_steps}
use Rattle.lists.specs.Items.{items_of}
use Rattle.lists.specs.declared.node_line.NodeLine.{NodeLine}
use Rattle.sheets.specs.declared.fault.Fault.{Fault}
use Rattle.sheets.specs.declared.checking.Checked.{Checked}
use Rattle.sheets.specs.Checks.{Top, tabled, rows, finish, checked, Outcome}
use Rattle.sheets.proofs.Endings.{fault_is, tabled_none, checked_no_top, checked_no_rows, checked_end}
use Rattle.sheets.proofs.checking.check.Goals as goal

pub invariant_of-reader : goal.invariant_of-reader
invariant_of-reader c = record {
  tabled = c.new.ensures ∙ sym (ap tabled c.clear.ensures.items ∙ tabled_none);
  room = omega (arith, ap length c.clear.ensures.room, c.requires.room);
}

pub returns-in_err-top-clause-is : goal.returns-in_err-top-clause-is
returns-in_err-top-clause-is c =
    let f = c.in_err-top.field-0.0 in
    ap₂ (λ (l : List NodeLine) (r : Result Checked Fault). (l, r)) c.clear.ensures.items (fault_is f c.from_residual.result c.from_residual.ensures.1)
    ∙ sym (checked_no_top c.args.pieces c.args.chain c.args.text.now f c.in_err-top.ensures)

pub returns-in_err-rest-clause-is : goal.returns-in_err-rest-clause-is
returns-in_err-rest-clause-is c =
    let h = c.in_ok-top.top in
    let t : Top = record { nodes = h.nodes; orders = h.orders; rest = h.rest.now } in
    let f = c.in_err-rest.field-0.0 in
    let ls = items_of c.read_rows.new.self.lines.now in
    let g = c.in_err-rest.ensures.gives in
    let start = ap (λ (l : List NodeLine). rows t.nodes c.args.pieces l t.rest) c.clear.ensures.items in
    let is : ◌≡◌ {A = List NodeLine × Result Checked Fault} (ls, c.from_residual-in_err-rest.result) (checked c.args.pieces c.args.chain c.args.text.now) =
    ap (λ (r : Result Checked Fault). (ls, r)) (fault_is f c.from_residual-in_err-rest.result c.from_residual-in_err-rest.ensures.1)
    ∙ sym (checked_no_rows c.args.pieces c.args.chain c.args.text.now t c.in_ok-top.ensures.1 ls
    (g.0 ∙ ap (λ (o : Outcome (List ℕ)). o.0) start) f (ap (λ (o : Outcome (List ℕ)). o.1) (sym start) ∙ g.1)) in
    let lent = c.read_rows.ensures.stays.lender in
    grind (arith, common_steps)

pub returns-clause-is : goal.returns-clause-is
returns-clause-is c =
    let h = c.in_ok-top.top in
    let t : Top = record { nodes = h.nodes; orders = h.orders; rest = h.rest.now } in
    let ls = items_of c.read_rows.new.self.lines.now in
    let g = c.in_ok-rest.ensures.gives in
    let start = ap (λ (l : List NodeLine). rows t.nodes c.args.pieces l t.rest) c.clear.ensures.items in
    let rest = c.in_ok-rest.rest.now in
    let is : ◌≡◌ {A = List NodeLine × Result Checked Fault} (ls, c.finish.result) (checked c.args.pieces c.args.chain c.args.text.now) =
    ap (λ (r : Result Checked Fault). (ls, r)) (c.finish.ensures ∙ ap (λ N. finish N h.orders rest) c.read_rows.new.self.tabled)
    ∙ sym (checked_end c.args.pieces c.args.chain c.args.text.now t c.in_ok-top.ensures.1 ls
    (g.0 ∙ ap (λ (o : Outcome (List ℕ)). o.0) start) rest (ap (λ (o : Outcome (List ℕ)). o.1) (sym start) ∙ g.1)) in
    let lent = c.read_rows.ensures.stays.lender in
    grind (arith, common_steps)
