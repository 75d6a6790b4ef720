-- What is said of the figures that were found, beside those that the report printed. Assumes nothing.
use Rattle.std.specs.Prelude.{◌≡◌, ◌≢◌}
use Rattle.networks.specs.declared.growth.Growth.{Growth}
use Rattle.networks.specs.declared.report.Printed.{Printed}
use Rattle.networks.specs.declared.report.Verdict.{Verdict}
use Rattle.networks.specs.declared.report.Verdict.TheVariants.{Agrees, Steps, Peak, Last, Orders, Factors}

-- all five figures agree, or the first that differs is the one that is named
abbrev pub Tells : Growth → Printed → Verdict → Type 0
Tells g p Steps = g.steps ≢ p.steps
Tells g p Peak = (g.steps ≡ p.steps) × (g.peak.once ≢ p.peak)
Tells g p Last = (g.steps ≡ p.steps) × (g.peak.once ≡ p.peak) × (g.last.once ≢ p.last)
Tells g p Orders = (g.steps ≡ p.steps) × (g.peak.once ≡ p.peak) × (g.last.once ≡ p.last) × (g.orders ≢ p.orders)
Tells g p Factors = (g.steps ≡ p.steps) × (g.peak.once ≡ p.peak) × (g.last.once ≡ p.last) × (g.orders ≡ p.orders) × (g.factors ≢ p.factors)
Tells g p Agrees = (g.steps ≡ p.steps) × (g.peak.once ≡ p.peak) × (g.last.once ≡ p.last) × (g.orders ≡ p.orders) × (g.factors ≡ p.factors)
