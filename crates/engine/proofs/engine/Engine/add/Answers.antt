use Rattle.std.proofs.Common.{refl}
use Rattle.engine.proofs.Keeping.{node_kept}
use Rattle.engine.proofs.engine.Engine.add.Goals as goal

pub invariant_of-self : goal.invariant_of-self
invariant_of-self g c =
    let s = c.args.self.now in
    record {
      kept = node_kept g.G.Chain.table g.met.G.Chain.laws s.room.nodes s.table c.node.new.self _ _ _ _ _ c.node.result c.requires
          (rw c.nodes.ensures at (c.node.ensures 0)) s.kept;
    }

pub returns : goal.returns
returns g c = record { rule = rw c.nodes.ensures at c.node.ensures; room = refl; cache = refl }
