use Rattle.std.proofs.Common.{get_or, ap, ◌∙◌, arith}
use Rattle.std.proofs.lemmas.List.{take_all}
use Rattle.std.proofs.ByRecursion.{All-get_or}
use Rattle.lines.specs.Format.{Digit, read_on}
use Rattle.lines.proofs.Fronts.{read_on_small, read_on_more}
use Rattle.lines.proofs.reads.value_of.Goals as goal

pub overflow_mul-n : goal.overflow_mul-n
overflow_mul-n c = omega (arith, read_on_small c.args.digits.now c.loop-d.d-index c.requires.digits c.requires.few)

pub overflow_sub-d : goal.overflow_sub-d
overflow_sub-d c = (All-get_or Digit c.args.digits.now c.loop-d.d-index 0 c.loop-d-test.true c.requires.digits).0

pub overflow_add-n : goal.overflow_add-n
overflow_add-n c =
    let digit : Digit (get_or c.args.digits.now c.loop-d.d-index 0) = All-get_or Digit _ _ 0 c.loop-d-test.true c.requires.digits in
    omega (arith, read_on_small c.args.digits.now c.loop-d.d-index c.requires.digits c.requires.few)

pub loop-d-preserved : goal.loop-d-preserved
loop-d-preserved c = (omega arith, omega (arith, read_on_more c.args.digits.now c.loop-d.d-index c.loop-d-test.true))

pub returns : goal.returns
returns c = c.loop-d.invariant.1 ∙ ap (read_on 0) (take_all c.loop-d.d-index c.args.digits.now c.loop-d-test.false)
