use Rattle.std.proofs.Common.{rules}
use Rattle.factors.proofs.Texts.{cut_shorter}
use Rattle.factors.proofs.account_of.Goals as goal

pub loop-rest-smaller : goal.loop-rest-smaller
loop-rest-smaller c = cut_shorter c.loop-rest.rest.now _ c.next_line.result.1.now c.next_line.ensures (search rules)
