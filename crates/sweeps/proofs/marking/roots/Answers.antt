use Rattle.sweeps.proofs.Spreads.{rooted_none, rooted_more, rooted_skip}
use Rattle.sweeps.proofs.marking.roots.Goals as goal
use Rattle.sweeps.proofs.marking.roots.Goals.{in-Some, in_default}

pub loop-peg-init : goal.loop-peg-init
loop-peg-init c = rooted_none c.args.pegs

pub loop-peg-preserved : goal.loop-peg-preserved
loop-peg-preserved c =
    elim c.match-peg.branch [
      | in-Some w ↦ rw w.marks-is (rooted_more c.args.pegs c.loop-peg.peg-index c.loop-peg.marks c.loop-peg.invariant w.in-Some.number w.in-Some.is (c.requires _ _ w.in-Some.is))
      | in_default w ↦ rw w.marks-is (rooted_skip c.args.pegs c.loop-peg.peg-index c.loop-peg.marks c.loop-peg.invariant w.in_default.is)
    ]
