use Rattle.std.proofs.Common.{arith}
use Rattle.std.proofs.lemmas.Bool.Decides.{nat_tests}
use Rattle.store.specs.Questions.{spot_asked}
use Rattle.store.proofs.store.Store.has_spot.Goals as goal

pub returns-then-piece-lt1 : goal.returns-then-piece-lt1
unfolding spot_asked
returns-then-piece-lt1 g c = let either = c.then-piece-lt1.either in let is = c.pieces-pieces.ensures in grind (arith, nat_tests)

pub returns : goal.returns
unfolding spot_asked
returns g c = let is = c.pieces-pieces.ensures in grind (arith, nat_tests)
