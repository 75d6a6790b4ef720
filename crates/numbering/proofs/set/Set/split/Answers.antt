use Rattle.std.proofs.Common.{ap, arith}
use Rattle.diagrams.specs.declared.Node.{Node}
use Rattle.tables.specs.Rows.{rows}
use Rattle.tables.proofs.Rows.{sound_of}
use Rattle.numbering.proofs.Walks.{parts_before}
use Rattle.numbering.proofs.set.Set.split.Goals as goal

pub invariant_of-result : goal.invariant_of-result
invariant_of-result c =
    let s = c.args.self in
    omega (arith, s.exists, ap (λ (a : Node). a.lo) c.get-row.ensures, parts_before (rows s.table.now) (sound_of s.table.now) s.number s.exists c.requires)

pub invariant_of-result-2 : goal.invariant_of-result-2
invariant_of-result-2 c =
    let s = c.args.self in
    omega (arith, s.exists, ap (λ (a : Node). a.hi) c.get-row.ensures, parts_before (rows s.table.now) (sound_of s.table.now) s.number s.exists c.requires)
