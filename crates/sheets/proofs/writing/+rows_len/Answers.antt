use Rattle.std.proofs.Common.{◌<◌, length, ap, arith, ltb-false, ltb-true}
use Rattle.sheets.proofs.Sheets.{lines_none, length-lines, length_rest}
use Rattle.sheets.proofs.writing.+rows_len.Goals as goal

pub returns-in-empty : goal.returns-in-empty
returns-in-empty t c = record { bytes = omega (arith, ap length (lines_none c.args.lines.now (omega (arith, ltb-true)))); few = omega arith }

pub returns-in-len1-up : goal.returns-in-len1-up
returns-in-len1-up t c =
    let ls = c.args.lines.now in
    let some : 0 < length ls = omega (arith, ltb-false) in
    let rest = length_rest ls some in
    record {
      bytes = omega (arith, length-lines ls some, c.line_len.ensures.bytes, c.rows_len.ensures.bytes);
      few = omega (arith, rest, c.line_len.ensures.few, c.rows_len.ensures.few);
    }
