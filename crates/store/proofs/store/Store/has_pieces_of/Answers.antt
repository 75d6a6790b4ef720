use Rattle.std.proofs.Common.{arith}
use Rattle.std.proofs.lemmas.Bool.Decides.{nat_tests}
use Rattle.store.specs.Questions.{order_asked}
use Rattle.store.proofs.store.Store.has_pieces_of.Goals as goal

pub returns-then-dimension-pieces : goal.returns-then-dimension-pieces
unfolding order_asked
returns-then-dimension-pieces g c = grind (arith, nat_tests)

pub returns : goal.returns
unfolding order_asked
returns g c = grind (arith, nat_tests)
