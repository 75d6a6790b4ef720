use Rattle.std.proofs.Common.{arith}
use Rattle.std.proofs.lemmas.Bool.Decides.{nat_tests}
use Rattle.store.specs.Questions.{peg_asked}
use Rattle.store.proofs.store.Store.is_free.Goals as goal

pub returns-then-peg : goal.returns-then-peg
unfolding peg_asked
returns-then-peg g c = grind (arith, nat_tests)

pub returns-then-is_some : goal.returns-then-is_some
unfolding peg_asked
returns-then-is_some g c = let is = c.if-is_some.ensures in grind (arith, nat_tests)

pub returns : goal.returns
unfolding peg_asked
returns g c = let is = c.if-is_some.ensures in grind (arith, nat_tests)
