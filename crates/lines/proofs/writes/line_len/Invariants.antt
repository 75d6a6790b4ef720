use Rattle.std.proofs.Common.{◌≡◌, ◌*◌, ◌≤◌, length, take}
use Rattle.lines.specs.Format.{more}
use Rattle.lines.proofs.writes.line_len.Given as goal

abbrev pub invariant-loop-value : goal.invariant-loop-value
invariant-loop-value l = (l.len ≡ length (more (take l.value-index l.values))) × (l.len ≤ 21 * l.value-index)
