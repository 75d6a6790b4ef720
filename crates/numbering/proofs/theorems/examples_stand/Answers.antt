use Rattle.std.proofs.Common.{refl}
use native.Mathlib.Decide.{dec_lt, dec_le}
use Rattle.orders.specs.Digits.{digit, pack}
use Rattle.orders.specs.Pigeons.{seek}
use Rattle.orders.specs.Orders.{make, place, standing, both, then, home, inverse, less_one, sending}
use Rattle.orders.specs.Dimension.{dimension, dimension_to}
use Rattle.orders.specs.Chains.{pair?, move_if, moves}
use Rattle.orders.specs.Tables.{swap, swapped, swapped_rule, rotation, rotated, rotated_rule}
use Rattle.orders.specs.Named.{order, sending_by, spreads, each_to}
use Rattle.diagrams.specs.Table.{fold}
use Rattle.diagrams.specs.Counting.{orders_of}
use Rattle.diagrams.specs.Examples.{places}
use Rattle.numbering.specs.Numbered.{item, place_in, order_at, place_of}
use Rattle.numbering.proofs.theorems.examples_stand.Goals as goal

pub returns : goal.returns
unfolding dec_lt dec_le digit pack seek make place standing both then home inverse less_one sending dimension dimension_to pair? move_if moves swap swapped swapped_rule rotation rotated rotated_rule order sending_by spreads each_to fold orders_of places item place_in order_at place_of
returns c = record {
  fetch_rows = (refl, (refl, (refl, (refl, (refl, (refl, tt))))));
  place_rows = (refl, (refl, (refl, tt)));
}
