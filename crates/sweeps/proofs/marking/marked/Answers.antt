use Rattle.std.proofs.Common.{◌≡◌, ℕ, ◌+◌, ◌<◌, [], length, sym, ap, ◌∙◌, append-nil, subst, arith}
use Rattle.tables.specs.Rows.{rows}
use Rattle.tables.proofs.Rows.{sound_of, rows_within}
use Rattle.sweeps.specs.Marks.{test}
use Rattle.sweeps.proofs.Spreads.{Marking, marking_begin, parts_fit, last_there, last_is, rest_whole, spread_marked, marking_end}
use Rattle.sweeps.proofs.marking.marked.Goals as goal
use Rattle.sweeps.proofs.marking.marked.Goals.{In-Some}

-- the node that the walk has come to is the one after those that are left
module _ (c : In-Some) where
  place : c.in-Some.i ≡ length c.next.new.self.iter.iter.rest.now
  place = omega (arith, c.in-Some.ensures.steps.1.1, c.loop-i.invariant.count)

  there : length c.next.new.self.iter.iter.rest.now < length (rows c.args.table.now)
  there = last_there _ _ _ _ c.loop-i.invariant.left.0 c.loop-i.invariant.left.1 c.in-Some.ensures.steps.1.0

  fit : (c.in-Some.node.now.lo < 2048) × (c.in-Some.node.now.hi < 2048)
  fit =
      parts_fit (rows c.args.table.now) _ c.in-Some.node.now (sound_of c.args.table.now) (rows_within c.args.table.now) there
      (last_is _ _ _ _ c.loop-i.invariant.left.0 c.loop-i.invariant.left.1 c.in-Some.ensures.steps.1.0)

pub roots-marks-requires : goal.roots-marks-requires
roots-marks-requires c = λ p n e. omega (arith, c.requires p n e, rows_within c.args.table.now)

pub loop-i-init : goal.loop-i-init
loop-i-init c =
    let e : c.into_iter-i-iterator.result.iter.iter.rest.now ≡ rows c.args.table.now = cc in
    record {
      count = cc;
      left = ([], sym (append-nil _ ∙ e));
      marking = rw e (marking_begin (rows c.args.table.now) c.args.pegs c.roots-marks.result c.roots-marks.ensures.long c.roots-marks.ensures.roots);
    }

pub bounds-marks-i : goal.bounds-marks-i
bounds-marks-i c = omega (arith, place c, there c, rows_within c.args.table.now)

pub bounds-marks-node : goal.bounds-marks-node
bounds-marks-node c = omega (arith, fit (goal.at.bounds-marks-node c).In-Some)

pub bounds-marks-node-then-marks-i : goal.bounds-marks-node-then-marks-i
bounds-marks-node-then-marks-i c = omega (arith, fit (goal.at.bounds-marks-node-then-marks-i c).In-Some)

pub loop-i-preserved-then-marks-i : goal.loop-i-preserved-then-marks-i
loop-i-preserved-then-marks-i c =
    let h = place (goal.at.loop-i-preserved-then-marks-i c).In-Some in
    let t = c.args.table.now in
    record {
      count = c.in-Some.ensures.steps.0 ∙ c.loop-i.invariant.count;
      left = (_, rest_whole _ _ _ _ c.loop-i.invariant.left.0 c.loop-i.invariant.left.1 c.in-Some.ensures.steps.1.0);
      marking = spread_marked (rows t) c.args.pegs (sound_of t) (rows_within t) _ _ _ c.loop-i.invariant.left.0 c.loop-i.invariant.left.1 c.in-Some.ensures.steps.1.0
          c.loop-i.marks c.loop-i.invariant.marking (ap (λ (i : ℕ). test c.loop-i.marks (i + 2)) (sym h) ∙ c.if-marks-i.true);
    }

pub returns : goal.returns
returns c = λ n e.
    let t = c.args.table.now in
    marking_end (rows t) c.args.pegs (sound_of t) (rows_within t) c.requires c.loop-i.marks
    (subst (λ (i : ℕ). Marking (rows t) c.args.pegs i c.loop-i.marks) c.in-None.ensures.steps.1.0 c.loop-i.invariant.marking) n
