use Rattle.std.proofs.Common.{rules, ◌≡◌, ℕ, ◌+◌, length, Ok, Err, sym, ap, ◌∙◌, subst, ap₂, arith}
use Rattle.std.proofs.lemmas.Result.{MatchResult-at_ok, MatchResult-at_err}
use Rattle.lines.specs.Held.{held}
use Rattle.orders.specs.Entries.{Writes}
use Rattle.orders.specs.declared.refusal.Refusal.{Refusal}
use Rattle.lists.specs.Items.{items_of, room_of, Added}
use Rattle.sheets.specs.declared.fault.Part.TheVariants.{Line, Book}
use Rattle.sheets.specs.Lines.{values}
use Rattle.sheets.proofs.Given.{mapped_ok, mapped_err}
use Rattle.books.specs.Faults.{bad_row, no_room}
use Rattle.books.specs.Gives.{Gives}
use Rattle.books.proofs.Rows.{written_row, written_code, unwritten_row}
use Rattle.books.proofs.Lines.{values_read}
use Rattle.books.proofs.Steps.{as_values, row_no_values, row_no_order, row_full, row_ok, gives_fault}
use Rattle.books.proofs.book.read_order.Goals as goal
use Rattle.books.proofs.book.read_order.Goals.{In_ok-found, In_ok-order}

-- the first line's values
valued : (c : In_ok-found) → values c.args.book.pieces (length (items_of c.args.list.now) + 4) c.args.text.now ≡ Ok (held c.in_ok-found.found, c.in_ok-found.rest.now)
valued c = as_values c.args.book (items_of c.args.list.now) c.args.text.now _ _ c.from.ensures (ap (λ n. n + 4) c.len.ensures) ∙ c.in_ok-found.ensures

-- and the order that they write
ordered : (c : In_ok-order) → Writes (held c.in_ok-found.found) (length (held c.in_ok-found.found)) c.in_ok-order.order
ordered c =
    let o = c.in_ok-order.order in
    MatchResult-at_ok _ _ o (mapped_ok c.order_of.result c.map_err.result _ c.map_err.ensures.cases o c.in_ok-order.was) c.order_of.ensures

pub returns-in_err-found-clause-gives : goal.returns-in_err-found-clause-gives
returns-in_err-found-clause-gives c =
    let b = c.args.book in
    let cs = items_of c.args.list.now in
    let text = c.args.text.now in
    let f = c.in_err-found.field-0.0 in
    let number : c.len.result + 4 ≡ length cs + 4 = ap (λ n. n + 4) c.len.ensures in
    let e : values b.pieces (length cs + 4) text ≡ Err f = as_values b cs text _ _ c.from.ensures number ∙ c.in_err-found.ensures in
    let room = length (room_of c.args.list.now) in
    gives_fault b room cs text f c.from_residual.result c.from_residual.ensures.1 (row_no_values b room cs text f e)

pub returns-in_err-order-clause-gives : goal.returns-in_err-order-clause-gives
returns-in_err-order-clause-gives c =
    let b = c.args.book in
    let cs = items_of c.args.list.now in
    let text = c.args.text.now in
    let ns = held c.in_ok-found.found in
    let rest = c.in_ok-found.rest.now in
    let number : c.len.result + 4 ≡ length cs + 4 = ap (λ n. n + 4) c.len.ensures in
    let e = valued (goal.at.returns-in_err-order-clause-gives c).In_ok-found in
    let l = values_read b.pieces (length cs + 4) text ns rest e in
    let f = c.in_err-order.field-0.0 in
    let no = mapped_err c.order_of.result c.map_err.result _ c.map_err.ensures.cases f c.in_err-order.was in
    let told : f ≡ record { refusal = no.0; line = c.len.result + 4; part = Line } = search rules in
    let none = MatchResult-at_err _ _ no.0 no.1 c.order_of.ensures in
    let fault : bad_row (length cs + 4) ≡ f =
    sym (told ∙ ap₂ (λ (r : Refusal) (n : ℕ). record { refusal = r; line = n; part = Line }) none.why number) in
    let room = length (room_of c.args.list.now) in
    gives_fault b room cs text f c.from_residual-in_err-order.result c.from_residual-in_err-order.ensures.1
    (row_no_order b room cs text ns rest e (unwritten_row ns l.some l.few none.none) ∙ ap Err fault)

pub returns-in_err-map_err-clause-gives : goal.returns-in_err-map_err-clause-gives
returns-in_err-map_err-clause-gives c =
    let b = c.args.book in
    let cs = items_of c.args.list.now in
    let text = c.args.text.now in
    let ns = held c.in_ok-found.found in
    let rest = c.in_ok-found.rest.now in
    let number : c.len.result + 4 ≡ length cs + 4 = ap (λ n. n + 4) c.len.ensures in
    let e = valued (goal.at.returns-in_err-map_err-clause-gives c).In_ok-found in
    let o = c.in_ok-order.order in
    let w = ordered (goal.at.returns-in_err-map_err-clause-gives c).In_ok-order in
    let f = c.in_err-map_err.field-0.0 in
    let no = mapped_err c.add.result c.map_err-2.result _ c.map_err-2.ensures.cases f c.in_err-map_err.was in
    let told : f ≡ record { refusal = no.0; line = c.len.result + 4; part = Book } = search rules in
    let d = subst (Added c.args.list.now c.add.new.self c.into.result) no.1 c.add.ensures.answer in
    let fault : no_room (length cs + 4) ≡ f =
    sym (told ∙ ap₂ (λ (r : Refusal) (n : ℕ). record { refusal = r; line = n; part = Book }) d.number number) in
    let room = length (room_of c.args.list.now) in
    let r = c.from_residual-in_err-map_err.result in
    subst (λ l. Gives b room cs text l r) (sym (ap items_of d.same))
    (gives_fault b room cs text f r c.from_residual-in_err-map_err.ensures.1
    (row_full b room cs text ns rest e (written_row ns o w) (omega (arith, d.full)) ∙ ap Err fault))

pub returns-clause-gives : goal.returns-clause-gives
returns-clause-gives c =
    let b = c.args.book in
    let cs = items_of c.args.list.now in
    let text = c.args.text.now in
    let ns = held c.in_ok-found.found in
    let rest = c.in_ok-found.rest.now in
    let e = valued (goal.at.returns-clause-gives c).In_ok-found in
    let o = c.in_ok-order.order in
    let w = ordered (goal.at.returns-clause-gives c).In_ok-order in
    let code = written_code ns o w ∙ sym c.into.ensures in
    let place = mapped_ok c.add.result c.map_err-2.result _ c.map_err-2.ensures.cases c.in_ok-map_err.field-0 c.in_ok-map_err.was in
    let g = subst (Added c.args.list.now c.add.new.self c.into.result) place c.add.ensures.answer in (
      c.into.result,
      row_ok b (length (room_of c.args.list.now)) cs text ns rest e (written_row ns o w) g.free ∙ ap (λ (n : ℕ). Ok (n, rest)) code,
      g.items,
    )
