use Rattle.std.proofs.Common.{arith}
use Rattle.std.proofs.lemmas.Bool.Decides.{nat_tests}
use Rattle.catalogue.specs.Requests.{spot_fits}
use Rattle.catalogue.proofs.naming.spot.Goals as goal

pub returns-then-piece-gt16 : goal.returns-then-piece-gt16
unfolding spot_fits
returns-then-piece-gt16 c = let either = c.then-piece-gt16.either in grind (arith, nat_tests)

pub returns : goal.returns
unfolding spot_fits
returns c = grind (arith, nat_tests)
