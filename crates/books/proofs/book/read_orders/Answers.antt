use Rattle.std.proofs.Common.{◌<◌, length, arith, true-eqb, false-eqb}
use Rattle.lists.specs.Items.{items_of, room_of}
use Rattle.books.proofs.Steps.{step_shorter, going_first, going_on, going_fault, going_end}
use Rattle.books.proofs.book.read_orders.Goals as goal

pub loop-rest-init : goal.loop-rest-init
loop-rest-init c = going_first c.args.book c.args.list.now c.args.text.now

pub returns-in_err-rest : goal.returns-in_err-rest
returns-in_err-rest c =
    let some : 0 < length c.loop-rest.rest.now = omega (arith, false-eqb _ _ c.loop-rest-test.ensures) in
    let told = c.in_err-rest.ensures in
    let r =
    going_fault c.args.book c.args.list.now c.args.text.now c.loop-rest.list c.loop-rest.rest.now c.loop-rest.invariant some c.read_order.new.list told.kept
    c.in_err-rest.field-0.0 c.from_residual.result c.from_residual.ensures.1 told.gives in
    record { outcome = r.0; kept = r.1 }

pub loop-rest-smaller : goal.loop-rest-smaller
loop-rest-smaller c =
    let now = c.loop-rest.list in
    let w = c.in_ok-rest.ensures.gives in
    step_shorter c.args.book (length (room_of now)) (items_of now) c.loop-rest.rest.now w.0 c.in_ok-rest.rest.now w.1

pub loop-rest-preserved : goal.loop-rest-preserved
loop-rest-preserved c =
    let some : 0 < length c.loop-rest.rest.now = omega (arith, false-eqb _ _ c.loop-rest-test.ensures) in
    let told = c.in_ok-rest.ensures in
    going_on c.args.book c.args.list.now c.args.text.now c.loop-rest.list c.loop-rest.rest.now c.loop-rest.invariant some c.read_order.new.list told.kept
    c.in_ok-rest.rest told.gives

pub returns : goal.returns
returns c = record {
  outcome = going_end c.args.book c.args.list.now c.args.text.now c.loop-rest.list c.loop-rest.rest.now c.loop-rest.invariant
      (true-eqb _ _ c.loop-rest-test.ensures);
  kept = c.loop-rest.invariant.kept;
}
