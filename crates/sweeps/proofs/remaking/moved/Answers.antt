use Rattle.std.proofs.Common.{◌≡◌, length, get_or, rules, arith}
use Rattle.sweeps.specs.Sweeping.{on_peg}
use Rattle.sweeps.proofs.Rebuilds.{moved_end}
use Rattle.sweeps.proofs.remaking.moved.Goals as goal

pub returns : goal.returns
returns c =
    let long : length c.args.pegs ≡ 64 = search rules in
    moved_end (on_peg (λ n. get_or c.args.numbers.now n 0)) c.args.pegs c.loop-peg.peg-items c.loop-peg.peg-index c.loop-peg.invariant (omega (arith, c.loop-peg-test.false))
