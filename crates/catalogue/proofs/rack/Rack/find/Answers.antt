use Rattle.std.proofs.Common.{None, arith}
use Rattle.catalogue.specs.Racks.{slots_of}
use Rattle.std.proofs.lemmas.List.{get_or_past}
use Rattle.catalogue.proofs.Slots.{lacks_none}
use Rattle.catalogue.proofs.rack.Rack.find.Goals as goal

pub returns-then-claim : goal.returns-then-claim
returns-then-claim c =
    let s = slots_of c.args.self.now in
    lacks_none s c.args.claim (get_or_past s c.args.claim.peg None (omega (arith, c.args.self.now.long)))
