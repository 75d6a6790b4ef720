use Rattle.engine.proofs.Readings.{read_follow}
use Rattle.engine.proofs.planning.follow.Goals as goal

pub returns : goal.returns
returns g c = read_follow g.G.Chain.table c.args.a c.args.b c.step.result c.get-q.ensures c.step.ensures
