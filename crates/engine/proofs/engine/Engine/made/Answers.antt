use Rattle.tables.specs.Rows.{rows}
use Rattle.engine.specs.Answers.{Forgets}
use Rattle.engine.proofs.Along.{node_answered, node_refused}
use Rattle.engine.proofs.engine.Engine.made.Goals as goal

pub returns-in_err-set : goal.returns-in_err-set
returns-in_err-set g c = record {
  rule = λ n _. node_refused g.G.Chain.table c.args.self.now.room.nodes (Forgets g.row.C.Denot g.C.Cache.recalls) (rows c.args.self.now.table)
      c.args.branch.x c.args.branch.y c.args.branch.lo c.args.branch.hi c.add.new.self.table n
      c.in_err-set.field-0.0 c.in_err-set.ensures.rule c.from_residual.result c.from_residual.ensures.1;
  room = c.add.ensures.room;
}

pub returns : goal.returns
returns g c = record {
  rule = λ n. node_answered g.G.Chain.table c.args.self.now.room.nodes (Forgets g.row.C.Denot g.C.Cache.recalls) (rows c.args.self.now.table)
      c.args.branch.x c.args.branch.y c.args.branch.lo c.args.branch.hi c.add.new.self.table n
      c.in_ok-set.set c.in_ok-set.ensures.rule c.args.entries;
  room = c.add.ensures.room;
}
