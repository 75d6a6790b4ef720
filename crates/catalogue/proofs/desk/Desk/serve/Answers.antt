use Rattle.std.proofs.Math.Logic.{∥∥₁_map}
use Rattle.store.specs.Views.{view}
use Rattle.catalogue.proofs.Makes.{after_adds, after_sweep, after_reads}
use Rattle.catalogue.proofs.desk.Desk.serve.Goals as goal

pub invariant_of-self : goal.invariant_of-self
invariant_of-self g c =
    let d = c.args.self.now in
    record { racked = ∥∥₁_map d.racked (λ k. after_adds g.G.Chain.table (view d.store.now) (view c.add.new.self) _ k _ _ _ _ c.add.ensures.after) }

pub invariant_of-self-in-Sweep : goal.invariant_of-self-in-Sweep
invariant_of-self-in-Sweep g c =
    let d = c.args.self.now in
    record { racked = ∥∥₁_map d.racked (λ k. after_sweep g.G.Chain.table (view d.store.now) (view c.sweep.new.self) _ k c.sweep.ensures.does.after) }

pub invariant_of-self-in-Read : goal.invariant_of-self-in-Read
invariant_of-self-in-Read g c =
    let d = c.args.self.now in
    record { racked = ∥∥₁_map d.racked (λ k. after_reads g.G.Chain.table (view d.store.now) (view c.read.new.store) _ k g.G.Chain.CODE _ c.read.ensures.is) }
