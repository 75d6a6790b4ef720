use Rattle.std.proofs.Common.{length}
use Rattle.lines.proofs.reads.+following.Given as goal

abbrev pub decreases-following : goal.decreases-following
decreases-following l = length l.text.now
