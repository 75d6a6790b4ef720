use Rattle.std.proofs.Common.{◌≡◌, ◌≤◌, length, take}
use Rattle.lines.specs.Format.{read_on}
use Rattle.lines.proofs.reads.value_of.Given as goal

abbrev pub invariant-loop-d : goal.invariant-loop-d
invariant-loop-d l = (l.d-index ≤ length l.digits) × (l.n ≡ read_on 0 (take l.d-index l.digits))
