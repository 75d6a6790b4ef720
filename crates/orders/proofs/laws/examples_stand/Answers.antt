use Rattle.std.proofs.Common.{refl}
use native.Mathlib.Decide.{dec_le, dec_lt}
use Rattle.orders.specs.Digits.{digit, pack}
use Rattle.orders.specs.Orders.{place, make, both, then, home, inverse, standing, sending, less_one}
use Rattle.orders.specs.Pigeons.{seek}
use Rattle.orders.specs.Entries.{row_of}
use Rattle.orders.specs.Chains.{pair?, move_if, moves}
use Rattle.orders.specs.Tables.{swap, swapped, rotation, rotated}
use Rattle.orders.specs.Factors.{left_after, remains, factor_at, step_at, factors_of, pairs_in, factor_pairs}
use Rattle.orders.specs.Named.{order, sending_by, spreads, each_to}
use Rattle.orders.specs.Examples.{table}
use Rattle.orders.proofs.laws.examples_stand.Goals as goal

pub returns : goal.returns
unfolding digit pack place make both then home inverse standing sending less_one seek row_of pair? move_if moves swap swapped rotation rotated left_after remains factor_at step_at pairs_in factors_of factor_pairs order sending_by spreads each_to table dec_le dec_lt
returns c = refl
