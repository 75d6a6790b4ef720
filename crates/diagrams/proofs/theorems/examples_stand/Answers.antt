use Rattle.std.proofs.Common.{refl}
use native.Mathlib.Decide.{dec_lt, dec_le}
use Rattle.orders.specs.Digits.{digit, pack}
use Rattle.orders.specs.Pigeons.{seek}
use Rattle.orders.specs.Orders.{make, place, standing, both, then, home, inverse, less_one, sending}
use Rattle.orders.specs.Dimension.{dimension, dimension_to}
use Rattle.orders.specs.Chains.{pair?, move_if, moves}
use Rattle.orders.specs.Tables.{swap, swapped, swapped_rule}
use Rattle.diagrams.specs.Level.{level}
use Rattle.diagrams.specs.Table.{x_of, y_of, lo_of, hi_of, level_of, count_of, fold}
use Rattle.diagrams.specs.Rules.{first, node}
use Rattle.diagrams.specs.Script.{go, deep}
use Rattle.diagrams.specs.Bodies.{body}
use Rattle.diagrams.specs.Work.{depth, task}
use Rattle.diagrams.specs.Counting.{orders_of}
use Rattle.diagrams.specs.Examples.{places}
use Rattle.diagrams.proofs.theorems.examples_stand.Goals as goal

pub returns : goal.returns
unfolding dec_lt dec_le digit pack seek make place standing both then home inverse less_one sending dimension dimension_to pair? move_if moves swap swapped swapped_rule level x_of y_of lo_of hi_of level_of count_of fold first node go deep body depth task orders_of places
returns c = record {
  level_rows = (refl, (refl, (refl, (refl, (refl, tt)))));
  order_rows = (refl, (refl, tt));
  set_rows = (refl, (refl, (refl, tt)));
  work_rows = ((refl, refl), ((refl, refl), ((refl, refl), ((refl, refl), ((refl, refl), tt)))));
}
