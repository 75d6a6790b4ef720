use Rattle.std.proofs.Common.{replicate, refl, ◌∙◌}
use Rattle.tables.specs.Rows.{rows}
use Rattle.store.proofs.Racks.{none_pegged, unpegged}
use Rattle.store.proofs.store.Store.begin.Goals as goal

pub invariant_of-result : goal.invariant_of-result
invariant_of-result g c = record { long = refl; pegged = none_pegged (rows c.new.result.table) 64; roomed = c.new.ensures.room ∙ c.room.ensures }

pub returns : goal.returns
returns g c = record {
  view_is = λ i. record { plan = c.args.plan; season = c.season.ensures i; nodes = c.new.ensures.bare i; pegs = replicate 64 unpegged };
  empty = c.new.ensures.emptied;
}
