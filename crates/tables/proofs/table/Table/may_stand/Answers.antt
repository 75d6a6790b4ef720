use Rattle.std.proofs.Common.{ap, arith}
use Rattle.std.proofs.lemmas.Bool.Decides.{nat_tests}
use Rattle.diagrams.specs.declared.Node.{Node}
use Rattle.tables.specs.Rows.{rows}
use Rattle.tables.specs.Rules.{stands}
use Rattle.tables.proofs.Standing.{stands_lower, stands_not}
use Rattle.tables.proofs.table.Table.may_stand.Goals.{then-not-exists-via-then-not-exists, then-not-exists-via-else-not-exists+then-not-exists-2}
use Rattle.tables.proofs.table.Table.may_stand.Goals as goal

pub returns-then-x-gt16 : goal.returns-then-x-gt16
unfolding stands
returns-then-x-gt16 c =
    let either = c.then-x-gt16.either in
    grind (arith, nat_tests)

pub returns-then-not-exists : goal.returns-then-not-exists
unfolding stands
returns-then-not-exists c = elim c.then-not-exists.branch [
  | then-not-exists-via-then-not-exists w ↦
      let there = c.exists.ensures in
      let not = w.if-not-exists.true in
      grind (arith, nat_tests)
  | then-not-exists-via-else-not-exists+then-not-exists-2 w ↦
      let there = w.exists-else-not-exists.ensures in
      let not = w.if-not-exists-2.true in
      grind (arith, nat_tests)
]

pub returns-then-level_of-level : goal.returns-then-level_of-level
returns-then-level_of-level c =
    let a = c.args.branch in
    stands_lower (rows c.args.self.now) c.args.pieces a.x a.y a.lo a.hi (omega arith) (omega arith) (omega arith) (omega arith)
    (c.exists.ensures.0 c.if-not-exists.false) (c.exists-else-not-exists.ensures.0 c.if-not-exists-2.false) (omega arith)
    c.level_of.result c.level.result c.get.result.x c.level_of.ensures
    (c.level.ensures.pair (omega arith, omega arith, omega arith))
    (ap (λ (n : Node). n.x) c.get.ensures) c.if-level_of-level.true

pub returns-else-level_of-level : goal.returns-else-level_of-level
returns-else-level_of-level c =
    let a = c.args.branch in
    stands_not (rows c.args.self.now) c.args.pieces a.x a.y a.lo a.hi (omega arith) (omega arith) (omega arith) (omega arith)
    (c.exists.ensures.0 c.if-not-exists.false) (c.exists-else-not-exists.ensures.0 c.if-not-exists-2.false) (omega arith)
    c.level_of.result c.level.result c.level_of.ensures
    (c.level.ensures.pair (omega arith, omega arith, omega arith))
    c.if-level_of-level.false
