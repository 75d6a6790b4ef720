use Rattle.std.proofs.Common.{length, ap, arith}
use Rattle.std.proofs.lemmas.List.{take_all}
use Rattle.lines.specs.Format.{more}
use Rattle.lines.proofs.Pages.{length_more_take, line_long}
use Rattle.lines.proofs.writes.line_len.Goals as goal

pub loop-value-preserved : goal.loop-value-preserved
loop-value-preserved c = (
  omega (arith, c.loop-value.invariant.0, c.digit_len.ensures.digits, length_more_take c.args.values.now c.loop-value.value-index c.loop-value-test.true),
  omega (arith, c.loop-value.invariant.1, c.digit_len.ensures.few),
)

pub overflow_add-len-in-loop-value : goal.overflow_add-len-in-loop-value
overflow_add-len-in-loop-value c = omega (arith, c.requires, c.loop-value.invariant.1, c.digit_len.ensures.few)

pub returns : goal.returns
returns c =
    let whole = ap (λ l. length (more l)) (take_all c.loop-value.value-index c.args.values.now c.loop-value-test.false) in
    record {
      bytes = omega (arith, c.max.ensures, c.loop-value.invariant.0, whole, line_long c.args.values.now);
      few = omega (arith, c.max.ensures, c.loop-value.invariant.1, c.loop-value.auto.value-index-end);
    }
