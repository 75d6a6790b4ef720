use Rattle.lines.proofs.writes.+digit_len.Given as goal

abbrev pub decreases-digit_len : goal.decreases-digit_len
decreases-digit_len l = l.n
