use Rattle.std.proofs.Common.{◌∙◌, arith}
use Rattle.std.proofs.lemmas.Bool.Decides.{nat_tests}
use Rattle.store.specs.Views.{view}
use Rattle.store.specs.Questions.{held_on}
use Rattle.store.proofs.Racks.{held_ok}
use Rattle.store.proofs.store.Store.held_number.Goals as goal

pub returns-then-mark : goal.returns-then-mark
unfolding held_on
returns-then-mark g c = let either = c.then-mark.either in let is = c.mark.ensures in grind (arith, nat_tests)

pub returns : goal.returns
returns g c = c.ok_or.ensures.value ∙ held_ok (view c.args.self.now) c.args.hold.now.mark c.args.hold.now.peg (c.if-mark.false ∙ c.mark.ensures) c.if-peg.false
