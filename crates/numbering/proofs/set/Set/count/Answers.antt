use Rattle.std.proofs.Common.{sym, ap, ◌∙◌}
use Rattle.diagrams.specs.declared.Node.{Node}
use Rattle.diagrams.proofs.Counts.{counted}
use Rattle.tables.specs.Rows.{rows}
use Rattle.tables.proofs.Rows.{sound_of}
use Rattle.numbering.proofs.set.Set.count.Goals as goal

pub returns-clause-many : goal.returns-clause-many
returns-clause-many c = λ g laws.
    let s = c.args.self in
    let all = counted g laws (rows s.table.now) (sound_of s.table.now) s.number s.exists in
    record { list = _; once = all.once; long = all.long ∙ sym (ap (λ (a : Node). a.orders) c.get.ensures); exact = all.exact }
