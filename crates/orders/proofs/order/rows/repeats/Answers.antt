use Rattle.std.proofs.Common.{◌≡◌, ◌≢◌, arith, rules, refl}
use borrow.Author.Tests.{tests}
use Rattle.std.proofs.lemmas.Iterator.{cases_from_any, YieldsList-from_range}
use Rattle.orders.specs.Digits.{digit}
use Rattle.orders.proofs.Runs.{any_below}
use Rattle.orders.proofs.order.rows.repeats.Goals as goal

pub returns : goal.returns
returns c =
    any_below _ _ c.args.j c.any.result
    (cases_from_any _ _ _ (λ i. digit c.args.code i ≡ digit c.args.code c.args.j) (λ i. digit c.args.code i ≢ digit c.args.code c.args.j) c.any.ensures.ran
    (YieldsList-from_range 0 c.args.j c.args.j refl (omega arith))
    (λ x q k. search (rules, tests)) (λ x q k. search (rules, tests)))
