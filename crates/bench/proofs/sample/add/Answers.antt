use Rattle.std.proofs.Common.{sym, ◌∙◌, arith}
use Rattle.tables.proofs.Standing.{stands_asks}
use Rattle.bench.proofs.sample.add.Goals as goal

pub node-requires : goal.node-requires
node-requires c = record {
  capacity = omega arith;
  asks = stands_asks _ _ _ _ _ _ (sym c.may_stand.ensures ∙ c.if-may_stand.true);
}
