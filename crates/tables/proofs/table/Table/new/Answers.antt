use Rattle.std.proofs.Common.{refl, arith}
use Rattle.tables.specs.Rows.{rows}
use Rattle.tables.proofs.Rows.{none_sound}
use Rattle.tables.proofs.Chains.{heads_none}
use Rattle.tables.proofs.table.Table.new.Goals as goal

pub invariant_of-result : goal.invariant_of-result
invariant_of-result c = record { long = refl; wide = refl; deep = refl; within = omega arith; headed = (λ b h. heads_none _ 4096 b h); linked = (λ i h. absurd (omega arith)); sound = ∣ none_sound ∣₁ }

pub returns : goal.returns
unfolding rows
returns c = refl
