use Rattle.std.proofs.Common.{◌≤◌}
use Rattle.networks.proofs.growth.grown.Given as goal

abbrev pub invariant-loop-step : goal.invariant-loop-step
invariant-loop-step g l = record {
  steps : l.steps ≤ 121;
  nodes : l.last.nodes ≤ l.peak.nodes;
  once : l.last.once ≤ l.peak.once;
}
