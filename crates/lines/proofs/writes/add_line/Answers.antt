use Rattle.std.proofs.Common.{arith}
use Rattle.lines.proofs.Pages.{line_few}
use Rattle.lines.proofs.writes.add_line.Goals as goal
use Rattle.lines.proofs.writes.add_line.Goals.{else-left-lt-LONGEST-via-then-left-lt-LONGEST+else-left-line_len, else-left-lt-LONGEST-via-else-left-lt-LONGEST}

-- the line was counted and fits, or any line fits
pub write_line-requires : goal.write_line-requires
write_line-requires c = elim c.else-left-lt-LONGEST.branch [
  | else-left-lt-LONGEST-via-then-left-lt-LONGEST+else-left-line_len w ↦ omega (arith, c.left.ensures, w.left-then-left-lt-LONGEST.ensures, w.line_len.ensures.bytes, w.if-left-line_len.false)
  | else-left-lt-LONGEST-via-else-left-lt-LONGEST w ↦ omega (arith, c.left.ensures, w.if-left-lt-LONGEST.false, line_few c.args.values.now (λ i. (c.type_inv.values i).fits) c.requires)
]
