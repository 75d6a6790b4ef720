use Rattle.std.proofs.Common.{ℕ, List, length, sym, ap, ◌∙◌, subst, arith}
use Rattle.diagrams.specs.declared.Node.{Node}
use Rattle.diagrams.specs.Table.{Exists}
use Rattle.forms.specs.Walks.{sheet_of}
use Rattle.lines.specs.Pages.{Put}
use Rattle.store.specs.Views.{view}
use Rattle.store.proofs.Worked.{accepted, handle_there}
use Rattle.deposits.specs.Writing.{Writes}
use Rattle.deposits.proofs.Writings.{asked_no, refusal_is, writes_no, writes_yes, text_is}
use Rattle.deposits.proofs.writing.write.Goals as goal

pub returns-in_err-orders : goal.returns-in_err-orders
returns-in_err-orders g c =
    let w = view c.args.store.now in
    let e = c.in_err-orders.field-0.0 in
    let page = c.args.page.now in
    subst (Writes g.G.Chain.CODE w c.args.set page page) (sym (refusal_is e c.from_residual.result c.from_residual.ensures.1))
    (writes_no g.G.Chain.CODE w c.args.set page e (asked_no _ _ e c.in_err-orders.ensures.reply))

pub invariant_of-nodes : goal.invariant_of-nodes
invariant_of-nodes g c = record { sound = ∣ c.nodes.ensures.sound ∣₁; few = c.nodes.ensures.few }

pub list_lines-requires : goal.list_lines-requires
list_lines-requires g c =
    let w = view c.args.store.now in
    let yes = accepted _ _ _ c.in_ok-orders.ensures.reply in
    record {
      within = subst (λ N. Exists N c.args.set.number) (sym c.nodes.ensures.is) (handle_there w c.args.set yes.0).1;
      room = omega (arith, ap length c.new-lines.ensures.room);
    }

pub returns : goal.returns
returns g c =
    let w = view c.args.store.now in
    let h = c.args.set in
    let yes = accepted _ _ _ c.in_ok-orders.ensures.reply in
    let items = c.items.ensures ∙ c.list_lines.ensures.items ∙ ap (λ (N : List Node). (sheet_of N h.number).lines) c.nodes.ensures.is in
    let is = text_is g.G.Chain.CODE w.nodes h.number _ _ _ c.CODE.ensures yes.1 items in
    writes_yes g.G.Chain.CODE w h c.args.page.now c.write_sheet.new.page c.write_sheet.result yes.0
    (subst (λ (t : List ℕ). Put c.args.page.now c.write_sheet.new.page 0 t c.write_sheet.result) is c.write_sheet.ensures)
