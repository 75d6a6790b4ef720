use Rattle.orders.specs.Chains.{Pair}
use Rattle.std.proofs.Common.{arith}
use Rattle.diagrams.proofs.Levels.{slot_within}
use Rattle.diagrams.specs.Level.{level}
use Rattle.diagrams.proofs.LevelTable.{row, rows, listed}
use Rattle.diagrams.proofs.heights.level.Goals as goal

pub overflow_mul-before : goal.overflow_mul-before
overflow_mul-before c = omega (arith, slot_within c.args.x c.args.y (omega arith) (omega arith) (omega arith))

pub overflow_add-result : goal.overflow_add-result
overflow_add-result c = omega (arith, slot_within c.args.x c.args.y (omega arith) (omega arith) (omega arith))

pub bounds-before : goal.bounds-before
bounds-before c = slot_within c.args.x c.args.y (omega arith) (omega arith) (omega arith)

pub returns : goal.returns
unfolding rows row level
returns c =
    let within : Pair c.args.x c.args.y = (omega arith, omega arith, omega arith) in
    record { pair = λ p. listed c.args.x c.args.y p.0 p.1 p.2; other = λ n. absurd (n within) }
