use Rattle.std.proofs.Common.{arith}
use Rattle.tables.specs.Rows.{rows}
use Rattle.tables.proofs.Rows.{sound_of, rows_within}
use Rattle.sweeps.proofs.Rebuilds.{marks_closed, nodes_swept, pegs_swept}
use Rattle.sweeps.proofs.sweep.Goals as goal

pub made_again-requires : goal.made_again-requires
made_again-requires c = marks_closed (rows c.args.table.now) c.args.pegs (sound_of c.args.table.now) c.requires c.marked-marks.result c.marked-marks.ensures

pub moved-requires : goal.moved-requires
moved-requires c = λ p n e. omega (arith, c.requires p n e, rows_within c.args.table.now)

pub returns : goal.returns
returns c =
    let t = c.args.table.now in
    record {
      nodes = nodes_swept (rows t) c.args.pegs (sound_of t) c.requires c.marked-marks.result c.marked-marks.ensures _ _ c.made_again.ensures;
      held = pegs_swept (rows t) c.args.pegs (sound_of t) c.requires c.marked-marks.result c.marked-marks.ensures _ _ c.made_again.ensures _ c.moved.ensures;
    }
