use Rattle.std.proofs.Common.{◌≡◌, ℕ, ◌+◌, ◌<◌, List, length, ap, add-one, refl, arith}
use Rattle.diagrams.specs.declared.Node.{Node}
use Rattle.diagrams.specs.Table.{at}
use Rattle.tables.specs.declared.table.Table.{Table}
use Rattle.tables.specs.Rows.{rows}
use Rattle.tables.proofs.Rows.{sound_of, rows_within}
use Rattle.sweeps.specs.Marks.{test}
use Rattle.sweeps.proofs.Spreads.{parts_fit}
use Rattle.sweeps.proofs.Rebuilds.{remaking_begin, remaking_skip, remaking_more, remaking_room, remake_asks}
use Rattle.sweeps.proofs.remaking.made_again.Goals as goal
use Rattle.sweeps.proofs.remaking.made_again.Goals.{then-marks-i, else-marks-i}

-- the nodes that the loop goes over are those of the table
module _ (t : Table) (nodes : List Node) (e : nodes ≡ rows t) (i : ℕ) (l : i < length nodes) where
  there : i < length (rows t)
  there = omega (arith, ap length e)

  few : i + 2 < 2048
  few = omega (arith, there, rows_within t)

  is : at nodes i ≡ at (rows t) i
  is = ap (λ (m : List Node). at m i) e

  fit : ((at nodes i).lo < 2048) × ((at nodes i).hi < 2048)
  fit = parts_fit (rows t) i (at nodes i) (sound_of t) (rows_within t) there is

pub loop-i-init : goal.loop-i-init
loop-i-init c = remaking_begin (rows c.args.table.now) (test c.args.marks.now) _ _ c.new-fresh.ensures c.ends-numbers.ensures

pub bounds-marks-i : goal.bounds-marks-i
bounds-marks-i c = few c.args.table.now _ c.nodes-node-items.ensures c.loop-i.i c.loop-i-test.true

pub bounds-numbers-node : goal.bounds-numbers-node
bounds-numbers-node c = (fit c.args.table.now _ c.nodes-node-items.ensures c.loop-i.i c.loop-i-test.true).0

pub bounds-numbers-node-then-marks-i : goal.bounds-numbers-node-then-marks-i
bounds-numbers-node-then-marks-i c = (fit c.args.table.now _ c.nodes-node-items.ensures c.loop-i.i c.loop-i-test.true).1

pub node-requires : goal.node-requires
node-requires c =
    let t = c.args.table.now in
    let e = c.nodes-node-items.ensures in
    let l = c.loop-i-test.true in
    record {
      capacity = omega arith;
      asks = remake_asks (rows t) (test c.args.marks.now) c.loop-i.i _ _ c.loop-i.invariant (sound_of t) c.requires (there t _ e c.loop-i.i l) (rows_within t) c.if-marks-i.true
          _ _ _ (is t _ e c.loop-i.i l) refl refl;
    }

pub unwrap-new-requires : goal.unwrap-new-requires
unwrap-new-requires c =
    let t = c.args.table.now in
    let e = c.nodes-node-items.ensures in
    let l = c.loop-i-test.true in
    remaking_room (rows t) (test c.args.marks.now) c.loop-i.i _ _ c.loop-i.invariant (sound_of t) c.requires (there t _ e c.loop-i.i l) (rows_within t) c.if-marks-i.true
    _ _ _ (is t _ e c.loop-i.i l) refl refl _ _ c.node.ensures

pub loop-i-preserved : goal.loop-i-preserved
loop-i-preserved c =
    let t = c.args.table.now in
    let e = c.nodes-node-items.ensures in
    let l = c.loop-i-test.true in
    rw add-one (elim c.if-marks-i.branch [
      | then-marks-i w ↦ rw (w.fresh-is, w.numbers-is)
          (remaking_more (rows t) (test c.args.marks.now) c.loop-i.i _ _ c.loop-i.invariant (sound_of t) c.requires (there t _ e c.loop-i.i l) (rows_within t) w.if-marks-i.true
          _ _ _ (is t _ e c.loop-i.i l) refl refl _ _ (rw w.unwrap-new.ensures at w.node.ensures))
      | else-marks-i w ↦ rw (w.fresh-is, w.numbers-is) (remaking_skip (rows t) (test c.args.marks.now) c.loop-i.i _ _ c.loop-i.invariant w.if-marks-i.false)
    ])
