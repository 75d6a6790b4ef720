use Rattle.std.proofs.Common.{ℕ, List, Ok, Err, Result, sym, ap, ◌∙◌, ap₂}
use Rattle.lists.specs.declared.node_line.NodeLine.{NodeLine}
use Rattle.forms.specs.Marks.{taken}
use Rattle.sheets.specs.declared.fault.Fault.{Fault}
use Rattle.store.specs.declared.shapes.Handle.{Handle}
use Rattle.store.specs.declared.plan.Plan.{Plan}
use Rattle.store.specs.Views.{view}
use Rattle.deposits.specs.Reading.{enters, rooted}
use Rattle.tables.proofs.Rows.{sound_of}
use Rattle.sheets.proofs.Endings.{fault_is}
use Rattle.deposits.proofs.Enters.{reads_with, handled}
use Rattle.deposits.proofs.Sets.{own_sheet, own_sheet_made}
use Rattle.deposits.proofs.reading.read.Goals as goal

pub returns-in_err-checked : goal.returns-in_err-checked
returns-in_err-checked g c =
    let w = view c.args.store.now in
    let f = c.in_err-checked.field-0.0 in
    let with = reads_with g.G.Chain.CODE w c.args.text.now _ (Err f) _ _ (c.pieces.ensures ∙ ap (λ (p : Plan). p.pieces) c.plan.ensures) c.CODE.ensures c.in_err-checked.ensures.is in
    let is = ap (λ (r : Result Handle Fault). (w, r)) (fault_is f c.from_residual.result c.from_residual.ensures.1) ∙ sym with in
    record {
      is = is;
      sheet = own_sheet_made g.G.Chain.table g.G.Chain.CODE w (sound_of c.args.store.now.engine.table) c.args.text.now w c.from_residual.result is;
    }

pub returns-in_err-enter : goal.returns-in_err-enter
returns-in_err-enter g c =
    let w = view c.args.store.now in
    let f = c.in_err-enter.field-0.0 in
    let root = c.in_ok-checked.checked.root in
    let with = reads_with g.G.Chain.CODE w c.args.text.now _ (Ok c.in_ok-checked.checked) _ _ (c.pieces.ensures ∙ ap (λ (p : Plan). p.pieces) c.plan.ensures) c.CODE.ensures c.in_ok-checked.ensures.is in
    let start = ap₂ (λ (rs : List ℕ) (ls : List NodeLine). enters w rs ls) (sym c.new-numbers.ensures.items) (sym c.items.ensures) in
    let is = ap (λ (r : Result Handle Fault). (view c.enter.new.store, r)) (fault_is f c.from_residual-in_err-enter.result c.from_residual-in_err-enter.ensures.1)
    ∙ sym (with ∙ ap (rooted root) (start ∙ c.in_err-enter.ensures.is)) in
    record {
      is = is;
      sheet = own_sheet_made g.G.Chain.table g.G.Chain.CODE w (sound_of c.args.store.now.engine.table) c.args.text.now (view c.enter.new.store) c.from_residual-in_err-enter.result is;
    }

pub returns : goal.returns
returns g c =
    let w = view c.args.store.now in
    let v = view c.enter.new.store in
    let root = c.in_ok-checked.checked.root in
    let with = reads_with g.G.Chain.CODE w c.args.text.now _ (Ok c.in_ok-checked.checked) _ _ (c.pieces.ensures ∙ ap (λ (p : Plan). p.pieces) c.plan.ensures) c.CODE.ensures c.in_ok-checked.ensures.is in
    let start = ap₂ (λ (rs : List ℕ) (ls : List NodeLine). enters w rs ls) (sym c.new-numbers.ensures.items) (sym c.items.ensures) in
    let number = c.number_of.ensures ∙ ap (λ (l : List ℕ). taken l root) c.items-2.ensures in
    let is = ap₂ (handled v) c.season.ensures number ∙ sym (with ∙ ap (rooted root) (start ∙ c.in_ok-enter.ensures.is)) in
    record {
      is = is;
      sheet = own_sheet g.G.Chain.table g.G.Chain.CODE w (sound_of c.args.store.now.engine.table) c.args.text.now v _ is;
    }
