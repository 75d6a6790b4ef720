use Rattle.std.proofs.Common.{rules, ◌≡◌, ℕ, ◌+◌, List, length, get_or, Err, Result, sym, ap, ◌∙◌}
use Rattle.orders.specs.declared.refusal.Refusal.{Refusal}
use Rattle.lists.specs.Items.{items_of}
use Rattle.forms.specs.Marks.{taken}
use Rattle.forms.specs.Visits.{blank}
use Rattle.sheets.specs.declared.fault.Fault.{Fault}
use Rattle.sheets.specs.declared.fault.Part.TheVariants.{Store}
use Rattle.sheets.proofs.Given.{mapped_ok, mapped_err}
use Rattle.store.specs.declared.shapes.Handle.{Handle}
use Rattle.store.specs.Views.{view}
use Rattle.store.specs.Does.{handle_reply}
use Rattle.deposits.specs.Reading.{in_store}
use Rattle.deposits.proofs.Enters.{entering_more, entering_declined, entering_end, gave_fault}
use Rattle.deposits.proofs.reading.enter.Goals as goal

pub returns-in_err-handle-clause-is : goal.returns-in_err-handle-clause-is
returns-in_err-handle-clause-is g c =
    let u = view c.loop-line.store in
    let v = view c.add.new.self in
    let ls = c.args.lines.now in
    let k = c.loop-line.line-index in
    let low = c.from.ensures ∙ c.number_of-lo.ensures ∙ ap (λ (l : List ℕ). taken l (get_or ls k blank).lo) c.items.ensures in
    let high = c.from-in-loop-line.ensures ∙ c.number_of-hi.ensures ∙ ap (λ (l : List ℕ). taken l (get_or ls k blank).hi) c.items-in-loop-line.ensures in
    let f = c.in_err-handle.field-0.0 in
    let no = mapped_err c.add.result c.map_err.result _ c.map_err.ensures.cases f c.in_err-handle.was in
    let told : f ≡ record { refusal = no.0; line = c.len.result + 4; part = Store } = search rules in
    let after = ap (λ (r : Result Handle Refusal). (v, handle_reply r)) (sym no.1) ∙ c.add.ensures.after in
    let fault : in_store no.0 (length (items_of c.loop-line.numbers) + 4) ≡ f = ap (λ n. in_store no.0 (n + 4)) (sym c.len.ensures) ∙ sym told in
    gave_fault (view c.args.store.now) c.args.numbers.now ls v c.loop-line.numbers f c.from_residual.result c.from_residual.ensures.1
    (entering_declined g.G.Chain.table (view c.args.store.now) c.args.numbers.now ls u v c.loop-line.numbers k c.loop-line.invariant c.loop-line-test.true _ _ low high no.0 after
    ∙ ap (λ (x : Fault). (v, Err x)) fault)

pub loop-line-preserved : goal.loop-line-preserved
loop-line-preserved g c =
    let u = view c.loop-line.store in
    let v = view c.add.new.self in
    let ls = c.args.lines.now in
    let k = c.loop-line.line-index in
    let low = c.from.ensures ∙ c.number_of-lo.ensures ∙ ap (λ (l : List ℕ). taken l (get_or ls k blank).lo) c.items.ensures in
    let high = c.from-in-loop-line.ensures ∙ c.number_of-hi.ensures ∙ ap (λ (l : List ℕ). taken l (get_or ls k blank).hi) c.items-in-loop-line.ensures in
    let h = c.in_ok-handle.handle in
    let yes = mapped_ok c.add.result c.map_err.result _ c.map_err.ensures.cases h c.in_ok-handle.was in
    let after = ap (λ (r : Result Handle Refusal). (v, handle_reply r)) (sym yes) ∙ c.add.ensures.after in
    entering_more g.G.Chain.table (view c.args.store.now) c.args.numbers.now ls u v c.loop-line.numbers k c.loop-line.invariant c.loop-line-test.true _ _ low high h after
    c.add-in-loop-line.new.self c.add-in-loop-line.result c.add-in-loop-line.ensures.answer c.add-in-loop-line.ensures.lender

pub returns-clause-is : goal.returns-clause-is
returns-clause-is g c =
    entering_end (view c.args.store.now) c.args.numbers.now c.args.lines.now (view c.loop-line.store) c.loop-line.numbers c.loop-line.line-index c.loop-line.invariant
    c.loop-line-test.false
