use Rattle.std.proofs.Common.{length}
use Rattle.sheets.proofs.writing.+rows_len.Given as goal

abbrev pub decreases-rows_len : goal.decreases-rows_len
decreases-rows_len l = length l.lines.now
