use Rattle.std.proofs.Common.{rules}
use borrow.Author.Tests.{tests}
use Rattle.std.proofs.lemmas.Iterator.{IsFirst-from_position, YieldsList-from_slice}
use Rattle.lines.specs.Format.{Digit}
use Rattle.lines.proofs.Fronts.{before_first}
use Rattle.lines.proofs.reads.digit_count.Goals as goal

pub returns-clause-digits : goal.returns-clause-digits
returns-clause-digits c =
    before_first Digit c.args.text.now c.position.result c.unwrap_or.result c.unwrap_or.ensures
    (IsFirst-from_position _ _ _ (λ b. Digit b → ⊥) Digit c.position.ensures.ran (YieldsList-from_slice c.args.text.now cc)
    (λ x q k. search (rules, tests)) (λ x q k. search (rules, tests)))
